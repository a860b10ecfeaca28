-- The invariant of a draft in which nothing is made.
use Rattle.std.proofs.Common.{◌≡◌, ℕ, ◌<◌, ◌≤◌, T, List, [], length, get_or, count_by, None, Option, sym, ap, ◌∙◌, subst, ap₂, arith}
use Rattle.inventory.specs.declared.family.Family.{Family}
use Rattle.model.specs.declared.rule_word.RuleWord.{RuleWord}
use Rattle.model.specs.Marks.{every}
use Rattle.model.specs.Proper.{of_family, of_kinds}
use Rattle.world.specs.declared.rows.Gate.{Gate}
use Rattle.world.specs.declared.rows.Place.{Place}
use Rattle.world.specs.Building.{nothing}
use Rattle.world.specs.Rows.{atlas, gate_sound, place_sound, goal_sound, words_of, last_leaving}
use Rattle.world.specs.Worlds.{Chained}

module _ (kinds : List ℕ) (gates : List Gate) (latest : List (Option ℕ)) (places : List Place) (words : List RuleWord) (pool stock : List ℕ)
    (ek : kinds ≡ []) (eg : gates ≡ []) (el : latest ≡ []) (eq : places ≡ []) (ew : words ≡ []) (ep : pool ≡ []) (es : stock ≡ []) where
  pub blank : ((f : Family) → count_by (of_family f) kinds ≤ 32)
      × (words_of gates places None ≡ length words)
      × T (every (gate_sound 0 kinds words) gates)
      × T (every (place_sound 0 kinds words) places)
      × T (goal_sound kinds words None)
      × T (every (of_kinds kinds) pool)
      × T (every (of_kinds kinds) stock)
      × (length latest ≡ 0)
      × ((r : ℕ) → r < length latest → get_or latest r None ≡ last_leaving gates r (length gates))
      × Chained gates
  blank = (
    λ f. subst (λ (ks : List ℕ). count_by (of_family f) ks ≤ 32) (sym ek) (omega arith),
    ap₂ (λ (gs : List Gate) (qs : List Place). words_of gs qs None) eg eq ∙ sym (ap length ew),
    subst (λ (gs : List Gate). T (every (gate_sound 0 kinds words) gs)) (sym eg) tt,
    subst (λ (qs : List Place). T (every (place_sound 0 kinds words) qs)) (sym eq) tt,
    tt,
    subst (λ (cs : List ℕ). T (every (of_kinds kinds) cs)) (sym ep) tt,
    subst (λ (cs : List ℕ). T (every (of_kinds kinds) cs)) (sym es) tt,
    ap length el,
    λ r h. absurd (omega (arith, ap length el)),
    subst Chained (sym eg) (λ k h. absurd (omega arith)),
  )

  pub blank_world : atlas 0 kinds gates places words pool stock None ≡ nothing
  blank_world =
      ap₂ (λ (ks : List ℕ) (gs : List Gate). atlas 0 ks gs places words pool stock None) ek eg
      ∙ ap₂ (λ (qs : List Place) (ws : List RuleWord). atlas 0 [] [] qs ws pool stock None) eq ew
      ∙ ap₂ (λ (ps ss : List ℕ). atlas 0 [] [] [] [] ps ss None) ep es
