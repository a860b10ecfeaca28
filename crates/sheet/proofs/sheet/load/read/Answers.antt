use Rattle.std.proofs.Common.{◌≡◌, ℕ, ◌+◌, ◌*◌, ◌≤◌, List, length, sym, ap, ◌∙◌, ap₂, rules}
use Rattle.std.proofs.lemmas.List.{take_rest}
use Rattle.world.specs.Worlds.{world_of}
use Rattle.sheet.specs.Files.{entries, count_in, checked}
use Rattle.sheet.proofs.Entries.{well_sized}
use Rattle.sheet.proofs.sheet.load.read.Goals as goal

pub returns : goal.returns
returns c =
    let w = world_of c.args.world.now in
    let f = c.args.file.now in
    let two : 2 ≤ length f = search rules in
    let named = c.from-count.ensures ∙ c.number.ensures in
    let counted : count_in f ≡ length w.places = sym named ∙ c.if-count-place_count.false ∙ c.place_count.ensures.count in
    let long : length f ≡ 2 + 2 * count_in f = c.if-file-count.false ∙ ap (λ n. 2 + 2 * n) named in
    c.read_entries.ensures ∙ ap₂ (λ (pool rest : List ℕ). checked (length pool) (entries rest)) c.pool.ensures.codes (take_rest f 2) ∙ well_sized w f two counted long
