-- What is known of a world's record and of its rows.
use Rattle.std.proofs.Common.{◌≡◌, ℕ, ◌<◌, Bool, true, false, ◌&&◌, T, List, map, length, get_or, None, sym, ap, ◌∙◌, arith}
use lib.ListN.{length-map}
use Rattle.std.proofs.lemmas.List.{get_or-map}
use Rattle.model.specs.declared.rule_word.RuleWord.{RuleWord}
use Rattle.model.specs.Rules.{reads, formed}
use Rattle.model.specs.Proper.{Proper}
use Rattle.model.proofs.Sets.{true_if}
use Rattle.model.proofs.Limits.{proper_facts}
use Rattle.world.specs.declared.rows.Gate.{Gate}
use Rattle.world.specs.declared.rows.Place.{Place}
use Rattle.world.specs.declared.world.World.{World}
use Rattle.world.specs.Worlds.{world_of}
use Rattle.world.proofs.Tables.{is_proper}
use Rattle.explore.specs.Meeting.{met}

-- what is read past the last row
abbrev pub no_gate : Gate
no_gate = record { near = 0; far = 0; rule = record { start = 0; len = 0 }; earlier = None }

abbrev pub no_place : Place
no_place = record { region = 0; rule = record { start = 0; len = 0 } }

pub true_T : (b : Bool) → b ≡ true → T b
true_T true e = tt
true_T false e = let z : ◌≡◌ {A = ℕ} 0 1 = cc in let y : ⊥ = omega arith in absurd y

pub proper_world : (w : World) → Proper (world_of w)
proper_world w = proper_facts (world_of w) (is_proper w)

-- a well formed rule is met just if it reads so
pub met_formed : (meets : ℕ → ℕ → Bool) (rule : List RuleWord) → T (formed rule) → met meets rule ≡ reads meets rule
met_formed meets rule t = ap (λ b. b && reads meets rule) (true_if (formed rule) t)

-- a row and what it stands for
pub row_found : {X Y : Type 0} (f : X → Y) (rows : List X) (all : List Y) (k : ℕ) (d : X) → map f rows ≡ all → k < length rows → f (get_or rows k d) ≡ get_or all k (f (get_or rows k d))
row_found f rows all k d e h = sym (get_or-map f rows k d (f (get_or rows k d)) h) ∙ ap (λ l. get_or l k (f (get_or rows k d))) e

pub as_many : {X Y : Type 0} (f : X → Y) (rows : List X) (all : List Y) → map f rows ≡ all → length rows ≡ length all
as_many f rows all e = sym (length-map rows f) ∙ ap length e
