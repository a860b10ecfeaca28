use Rattle.std.proofs.Common.{◌≡◌, ℕ, ◌+◌, ◌<◌, ◌≤◌, ◌⊎◌, List, [], ◌∷◌, length, refl, sym, ap, ◌∙◌, add-one, inl, inr, arith, rules}
use Rattle.std.proofs.lemmas.List.Edits.{length-remove}
use Rattle.draw.specs.Source.{Source, Fair}
use Rattle.draw.specs.Dealing.{Dealt}
use Rattle.playthrough.specs.Dealing.{after_dealing}
use Rattle.playthrough.proofs.deal_all.Goals as goal

-- a list that an item was dealt from has one fewer
dealt_shorter : {T : Type 0} (s : Source) → Fair s → (x : s.State) (left : List T) (index : ℕ) (item : T) (x' : s.State) (left' : List T) → Dealt s x left index item x' left' → 0 < length left → length left' + 1 ≡ length left
dealt_shorter s fair x left index item x' left' dealt some =
    let below : index < length left = rw dealt.drawn (fair.below x (length left) some) in
    rw dealt.rest (length-remove left index below)

-- a list that a draw can count, and that nothing is dealt from, is empty
undealt_empty : {T : Type 0} (left : List T) → (length left ≡ 0) ⊎ (65535 < length left) → length left ≤ 256 → left ≡ []
undealt_empty [] cannot few = refl
undealt_empty (x ∷ xs) (inl none) few = absurd (omega arith)
undealt_empty (x ∷ xs) (inr many) few = absurd (omega arith)

-- one item fewer, after one draw more
one_dealt : {T : Type 0} (s : Source) (x x' : s.State) (n : ℕ) (left : List T) → length left + 1 ≡ n → x' ≡ s.after x n → after_dealing s x' (length left) ≡ after_dealing s x n
one_dealt s x x' n left shorter state =
    let e = sym (add-one (length left)) ∙ shorter in
    ap (λ y. after_dealing s y (length left)) state ∙ ap (λ m. after_dealing s (s.after x m) (length left)) (sym e) ∙ ap (after_dealing s x) e

pub loop-index-preserved : goal.loop-index-preserved
loop-index-preserved g c =
    let s = g.S.DrawSource.draws in
    let e = c.in-Some.ensures in
    let shorter = dealt_shorter s g.S.DrawSource.fair _ _ _ _ _ _ e.drawn (omega (arith, e.some refl)) in
    (omega arith, one_dealt s _ _ _ _ shorter e.drawn.state ∙ c.loop-index.invariant.1)

pub loop-index-smaller : goal.loop-index-smaller
loop-index-smaller g c =
    let e = c.in-Some.ensures in
    let shorter = dealt_shorter _ g.S.DrawSource.fair _ _ _ _ _ _ e.drawn (omega (arith, e.some refl)) in
    omega arith

pub returns-clause-left : goal.returns-clause-left
returns-clause-left g c = λ few.
    let e = c.in_default.ensures.drawn in
    let none = undealt_empty _ e.cannot (omega arith) in
    let rest = e.rest in
    search rules

pub returns-clause-draws : goal.returns-clause-draws
returns-clause-draws g c = λ few.
    let s = g.S.DrawSource.draws in
    let e = c.in_default.ensures.drawn in
    let none = undealt_empty _ e.cannot (omega arith) in
    let there = c.loop-index.invariant.1 in
    search rules
