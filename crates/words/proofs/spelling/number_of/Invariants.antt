use Rattle.std.proofs.Common.{◌≡◌, ◌^◌, ◌<◌, take}
use Rattle.words.specs.Spelling.{number}
use Rattle.words.proofs.spelling.number_of.Given as goal

abbrev pub invariant-loop-byte : goal.invariant-loop-byte
invariant-loop-byte l = record { same : l.so_far ≡ number 0 (take l.byte-index l.digits); small : l.so_far < 10 ^ l.byte-index }
