use Rattle.std.proofs.Common.{rules, tests, ◌≡◌}
use Rattle.std.proofs.lemmas.Iterator.{YieldsList-from_slice}
use Rattle.std.proofs.lemmas.Iterator.Search.{position_from_yields_List}
use Rattle.std.specs.Str.{bytes_eq}
use Rattle.words.specs.Names.{place_of, names_in}
use Rattle.words.proofs.Lookups.{position-map}
use Rattle.words.proofs.names.find_name.Goals as goal

pub returns : goal.returns
returns c =
    let found = position_from_yields_List (λ known. bytes_eq known.now c.args.name.now) _ _ c.position.result c.position.ensures.ran (YieldsList-from_slice c.args.names.now cc) (λ x b q k. search (rules, tests)) in
    let same = position-map (λ known. bytes_eq known c.args.name.now) (λ known. known.now) c.args.names.now in
    let first : c.position.result ≡ place_of 0 c.args.name.now (names_in c.args.names.now) = cc in
    search rules
