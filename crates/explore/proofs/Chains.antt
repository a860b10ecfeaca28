-- The gates that leave a region, from the last to the first.
use Rattle.std.proofs.Common.{◌≡◌, ℕ, zero, suc, ◌<◌, ◌≤◌, Bool, T, eqb, List, [], ◌∷◌, map, length, get_or, Some, None, Option, sym, refl, ap, ◌∙◌, subst, inl, inr, zero-le, arith, eqb→eq}
use lib.Dec.{eqb_refl}
use Rattle.std.proofs.lemmas.Bool.{cases_order, cases_eq, cases_lt}
use Rattle.std.proofs.lemmas.List.{get_or-map, get_or_default}
use Rattle.std.proofs.ByRecursion.{All-get_or, All-from_get_or}
use Rattle.inventory.specs.Meaning.{Meaning}
use Rattle.model.specs.Worlds.{World as Atlas, Gate as Gateway}
use Rattle.model.specs.Proper.{Proper, ProperGate}
use Rattle.model.proofs.Sets.{cond_ways}
use Rattle.world.specs.declared.rows.Gate.{Gate}
use Rattle.world.specs.declared.world.World.{World}
use Rattle.world.specs.Rows.{near_at, last_leaving}
use Rattle.world.specs.Worlds.{world_of, gateway, Chained}
use Rattle.explore.specs.Reaching.{Settled, Left, Widens}
use Rattle.explore.proofs.Known.{no_gate, as_many}

-- how many gates stand up to the one of an index; none where there is no index
abbrev pub gates_to : Option ℕ → ℕ
gates_to None = 0
gates_to (Some k) = suc k

-- the gate of an index, if there is one, leaves the region
abbrev pub Leaves : List Gate → ℕ → Option ℕ → Type 0
Leaves rows x o = (j : ℕ) → o ≡ Some j → near_at rows j ≡ x

-- the gates from a number on that leave the region are settled
abbrev pub Past : (m : Meaning) (w : Atlas) → m.Value → ℕ → ℕ → List ℕ → List Bool → Type 0
Past m w v x n h s = (j : ℕ) (g : Gateway) → n ≤ j → j < length w.gates → g ≡ get_or w.gates j g → g.near ≡ x → Settled m v h s g

module _ (rows : List Gate) (x : ℕ) where
  pub leaving_le : (k : ℕ) → gates_to (last_leaving rows x k) ≤ k
  leaving_le zero = zero-le
  leaving_le (suc k) = cond_ways (λ o. gates_to o ≤ suc k) (eqb (near_at rows k) x) (Some k) (last_leaving rows x k) (λ t. omega arith) (λ f. let h = leaving_le k in omega arith)

  pub leaving_near : (k : ℕ) → Leaves rows x (last_leaving rows x k)
  leaving_near zero j e = cc
  leaving_near (suc k) j e =
      cond_ways (λ o. Leaves rows x o) (eqb (near_at rows k) x) (Some k) (last_leaving rows x k)
      (λ t i same. let here : k ≡ i = cc in subst (λ n. near_at rows n ≡ x) here (eqb→eq _ _ t))
      (λ f. leaving_near k) j e

  pub leaving_none : (k j : ℕ) → gates_to (last_leaving rows x k) ≤ j → j < k → near_at rows j ≡ x → ⊥
  leaving_none zero j l h e = omega arith
  leaving_none (suc k) j l h e =
      cond_ways (λ o. gates_to o ≤ j → ⊥) (eqb (near_at rows k) x) (Some k) (last_leaving rows x k)
      (λ t past. omega arith)
      (λ f past. elim (cases_eq j k) [
        | inl same ↦ f (subst (λ n. T (eqb n x)) (sym e ∙ ap (near_at rows) same) (eqb_refl x))
        | inr other ↦ leaving_none k j past (omega arith) e
      ]) l

module _ (m : Meaning) (world : World) (v : m.Value) (rows : List Gate) (same : map (gateway world) rows ≡ (world_of world).gates) where
  abbrev w : Atlas
  w = world_of world

  nears : (gates : List Gate) → map (λ (g : Gateway). g.near) (map (gateway world) gates) ≡ map (λ (g : Gate). g.near) gates
  unfolding gateway
  nears [] = refl
  nears (g ∷ gates) = ap (λ l. g.near ∷ l) (nears gates)

  near_is : (j : ℕ) (g : Gateway) → j < length w.gates → g ≡ get_or w.gates j g → near_at rows j ≡ g.near
  near_is j g h e =
      ap (λ l. get_or l j 0) (sym (nears rows) ∙ ap (map (λ (g : Gateway). g.near)) same)
      ∙ get_or-map (λ (g : Gateway). g.near) w.gates j g 0 h ∙ ap (λ (x : Gateway). x.near) (sym e)

  pub past_start : (x : ℕ) (h : List ℕ) (s : List Bool) → Past m w v x (gates_to (last_leaving rows x (length rows))) h s
  past_start x h s j g l lt e near =
      let many = as_many (gateway world) rows w.gates same in
      absurd (leaving_none rows x (length rows) j (omega arith) (omega arith) (near_is j g lt e ∙ near))

  pub past_unknown : Proper w → (x : ℕ) (h : List ℕ) (s : List Bool) → w.regions ≤ x → Past m w v x 0 h s
  past_unknown proper x h s out j g l lt e near =
      let known = (subst (ProperGate w) (sym e) (All-get_or (ProperGate w) w.gates j g lt proper.gates_lead)).near_known in
      let z : ⊥ = omega arith in absurd z

  -- the gate k is crossed, and n is the next
  pub past_next : (x k : ℕ) (o : Option ℕ) (s : List Bool) (h : List ℕ) (s' : List Bool) (h' : List ℕ) (g : Gateway)
      → k < length w.gates → g ≡ get_or w.gates k g → o ≡ last_leaving rows x k
      → Past m w v x (suc k) h s → Widens m w v s h s' h' → Settled m v h' s' g → Past m w v x (gates_to o) h' s'
  past_next x k o s h s' h' g lk found next old a here j q l lt e near =
      let past : gates_to (last_leaving rows x k) ≤ j = subst (λ r. gates_to r ≤ j) next l in
      elim (cases_order j k) [
        | inl at ↦ subst (Settled m v h' s') (found ∙ ap (λ i. get_or w.gates i g) (sym at) ∙ get_or_default w.gates j g q lt ∙ sym e) here
        | inr other ↦ elim other [
          | inl before ↦ absurd (leaving_none rows x k j past before (near_is j q lt e ∙ near))
          | inr after ↦ a.settled [] q (old j q (omega arith) lt e near)
        ]
      ]

  pub chain_start : Proper w → (all : List Gate) → rows ≡ all → (x : ℕ) (o : Option ℕ) (h : List ℕ) (s : List Bool) → (x < w.regions → o ≡ last_leaving all x (length all)) → (w.regions ≤ x → o ≡ None)
      → (gates_to o ≤ length rows) × Leaves rows x o × Past m w v x (gates_to o) h s
  chain_start proper all are x o h s known unknown =
      elim (cases_lt x w.regions) [
        | inl k ↦ (let last : last_leaving rows x (length rows) ≡ o = sym (known k ∙ ap (λ (l : List Gate). last_leaving l x (length l)) (sym are)) in (
          subst (λ r. gates_to r ≤ length rows) last (leaving_le rows x (length rows)),
          subst (Leaves rows x) last (leaving_near rows x (length rows)),
          subst (λ r. Past m w v x (gates_to r) h s) last (past_start x h s),
        ))
        | inr out ↦ (let none : None ≡ o = sym (unknown out) in (
          subst (λ r. gates_to r ≤ length rows) none zero-le,
          subst (Leaves rows x) none (λ j e. cc),
          subst (λ r. Past m w v x (gates_to r) h s) none (past_unknown proper x h s out),
        ))
      ]

  -- what the row of gate k names is the next
  pub chain_next : Chained rows → (x k : ℕ) → k < length rows → Leaves rows x (Some k) → (get_or rows k no_gate).earlier ≡ last_leaving rows x k
  chain_next chained x k h leaves =
      sym (get_or-map (λ (g : Gate). g.earlier) rows k no_gate None h) ∙ chained k h ∙ ap (λ r. last_leaving rows r k) (leaves k refl)

  pub past_all : (x : ℕ) (h : List ℕ) (s : List Bool) → Past m w v x 0 h s → Left m w v x h s
  past_all x h s p =
      All-from_get_or (λ (g : Gateway). g.near ≡ x → Settled m v h s g) w.gates (record { near = 0; far = 0; rule = [] })
      (λ j lt. p j (get_or w.gates j _) zero-le lt (get_or_default w.gates j _ _ lt))
