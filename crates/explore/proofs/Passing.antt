-- One word more of a rule.
use Rattle.std.proofs.Common.{◌≡◌, ℕ, ◌+◌, ◌<◌, ◌≤◌, Bool, false, ◌&&◌, eqb, List, [], ◌∷◌, length, get_or, drop, Some, None, Option, sym, ap, ◌∙◌, arith}
use Rattle.std.proofs.lemmas.Bool.{ne_eqb}
use Rattle.std.proofs.lemmas.List.{at_drop_more, at_drop_all}
use Rattle.model.specs.declared.rule_word.RuleWord.{RuleWord}
use Rattle.model.specs.declared.rule_word.RuleWord.TheVariants.{Free}
use Rattle.model.specs.Rules.{put_down, pass, last, reads, weigh, weighed, one_left}
use Rattle.explore.specs.Meeting.{met}

module _ (rule : List RuleWord) (i : ℕ) (s : List Bool) where
  module _ (h : i < length rule) where
    pub pass_next : (meets : ℕ → ℕ → Bool) (t : List Bool) → t ≡ put_down meets (get_or rule i Free) s → pass meets (drop (i + 1) rule) t ≡ pass meets (drop i rule) s
    pass_next meets t e = ap (pass meets (drop (i + 1) rule)) e ∙ sym (at_drop_more (λ l. pass meets l s) rule i Free h)

    weighed_here : (o : Option ℕ) → weigh (length s) (get_or rule i Free) ≡ o → weighed (length s) (drop i rule) ≡ elim o [ Some k ↦ weighed k (drop (i + 1) rule) | None ↦ None ]
    weighed_here o e = at_drop_more (weighed (length s)) rule i Free h ∙ ap (λ (x : Option ℕ). (elim x [ Some k ↦ weighed k (drop (i + 1) rule) | None ↦ None ])) e

    pub weighed_next : (t : List Bool) → weigh (length s) (get_or rule i Free) ≡ Some (length t) → weighed (length t) (drop (i + 1) rule) ≡ weighed (length s) (drop i rule)
    weighed_next t e = sym (weighed_here (Some (length t)) e)

    -- a word that does not find what it needs
    pub unformed : (meets : ℕ → ℕ → Bool) → weighed (length s) (drop i rule) ≡ weighed 0 rule → weigh (length s) (get_or rule i Free) ≡ None → false ≡ met meets rule
    unformed meets w e = ap (λ o. one_left o && reads meets rule) (sym (weighed_here None e) ∙ w)

  -- no word is left
  module _ (meets : ℕ → ℕ → Bool) (h : length rule ≤ i) (p : pass meets (drop i rule) s ≡ pass meets rule []) (w : weighed (length s) (drop i rule) ≡ weighed 0 rule) where
    left : (eqb (length s) 1 && last s) ≡ met meets rule
    left =
        ap (λ o. one_left o && last s) (sym (at_drop_all (weighed (length s)) rule i h) ∙ w)
        ∙ ap (λ l. one_left (weighed 0 rule) && last l) (sym (at_drop_all (λ l. pass meets l s) rule i h) ∙ p)

    pub left_none : s ≡ [] → false ≡ met meets rule
    left_none e = ap (λ l. eqb (length l) 1 && last l) (sym e) ∙ left

    pub left_one : (a : Bool) → s ≡ a ∷ [] → a ≡ met meets rule
    left_one a e = ap (λ l. eqb (length l) 1 && last l) (sym e) ∙ left

    pub left_more : (a b : Bool) (t : List Bool) → s ≡ a ∷ b ∷ t → false ≡ met meets rule
    left_more a b t e = ap (λ x. x && a) (sym (ne_eqb (length (a ∷ b ∷ t)) 1 (λ f. omega arith))) ∙ ap (λ l. eqb (length l) 1 && last l) (sym e) ∙ left
