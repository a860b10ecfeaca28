-- One place more that is looked at.
use Rattle.std.proofs.Common.{◌≡◌, ℕ, ◌+◌, ◌<◌, ◌≤◌, Bool, true, false, not, ◌&&◌, T, List, map, length, get_or, set, sym, refl, ap, ◌∙◌, subst, arith, length-set, below_more}
use Rattle.std.specs.List.{AllByRecursion}
use Rattle.std.proofs.lemmas.Bool.{and_parts, not-true}
use Rattle.std.proofs.ByRecursion.{All-get_or}
use Rattle.std.proofs.lemmas.Float.{T_from_true}
use Rattle.inventory.specs.Meaning.{Meaning, held}
use Rattle.scratch.specs.Marks.{region_marks, place_marks}
use Rattle.model.specs.Marks.{at, In, Sub, count}
use Rattle.model.specs.Rules.{reads}
use Rattle.model.specs.Worlds.{World as Atlas, Place as Spot, reached, opens}
use Rattle.model.proofs.Sets.{same_set, in_length}
use Rattle.model.proofs.Reaches.{open_at}
use Rattle.world.specs.declared.rows.Place.{Place}
use Rattle.world.specs.declared.world.World.{World}
use Rattle.world.specs.Worlds.{world_of, spot, rule_at, KnownPlace}
use Rattle.explore.specs.Marked.{regions_in, places_in}
use Rattle.explore.specs.Gathering.{newly, Grew, Opening}
use Rattle.explore.proofs.Known.{no_place, row_found, as_many}
use Rattle.explore.proofs.Counting.{count_set, in_set, in_set_same, set_inside}
use Rattle.explore.proofs.Marked.{at_regions_in, at_places_in}

-- what `opens` says of a place, by the row that stands for it
pub open_row : (m : Meaning) (w : Atlas) (v : m.Value) (k : ℕ) (q : Spot) → k < length w.places → q ≡ get_or w.places k q
    → (at (reached m w v) q.region && reads (held m v) q.rule) ≡ at (opens m w v) k
open_row m w v k q h e = ap (λ (x : Spot). at (reached m w v) x.region && reads (held m v) x.rule) e ∙ sym (open_at m w v k q h)

-- the same by the marks
pub open_read : (m : Meaning) (w : Atlas) (v : m.Value) (r : List ℕ) (k : ℕ) (q : Spot) → k < length w.places → q ≡ get_or w.places k q → q.region < w.regions
    → regions_in w r ≡ reached m w v → (at (region_marks r) q.region && reads (held m v) q.rule) ≡ at (opens m w v) k
open_read m w v r k q h e known marked =
    ap (λ x. x && reads (held m v) q.rule) (sym (at_regions_in w r q.region known) ∙ ap (λ s. at s q.region) marked) ∙ open_row m w v k q h e

-- the place of row k
abbrev pub row_place : World → List Place → ℕ → Spot
row_place world rows k = spot world (get_or rows k no_place)

module _ (world : World) (rows : List Place) (same : map (spot world) rows ≡ (world_of world).places) (k : ℕ) (h : k < length rows) where
  pub is_place : k < length (world_of world).places
  is_place = let many = as_many (spot world) rows (world_of world).places same in omega arith

  pub place_found : row_place world rows k ≡ get_or (world_of world).places k (row_place world rows k)
  place_found = row_found (spot world) rows (world_of world).places k no_place same h

  -- what the code reads of it
  module _ (m : Meaning) (v : m.Value) (r p : List ℕ) (b : Bool) (e : b ≡ newly (held m v) k (get_or rows k no_place).region (rule_at world (get_or rows k no_place).rule) (region_marks r) (place_marks p)) where
    pub read_marks : b ≡ (not (at (places_in (world_of world) p) k) && (at (region_marks r) (row_place world rows k).region && reads (held m v) (row_place world rows k).rule))
    unfolding spot rule_at
    read_marks =
        e ∙ ap (λ x. not x && (at (region_marks r) (row_place world rows k).region && reads (held m v) (row_place world rows k).rule)) (sym (at_places_in (world_of world) p k is_place))

    pub read_open : AllByRecursion (KnownPlace world) rows → regions_in (world_of world) r ≡ reached m (world_of world) v → b ≡ (not (at (places_in (world_of world) p) k) && at (opens m (world_of world) v) k)
    unfolding spot
    read_open known reached =
        read_marks
        ∙ ap (λ x. not (at (places_in (world_of world) p) k) && x) (open_read m (world_of world) v r k (row_place world rows k) is_place place_found (All-get_or (KnownPlace world) rows k no_place h known).region_known reached)

-- a place that does not open, and one that does
pub not_newly : (b x : Bool) → (not b && x) ≡ false → T x → T b
not_newly true x e t = tt
not_newly false x e t = subst T e t

pub is_newly : (b x : Bool) → (not b && x) ≡ true → (b ≡ false) × (x ≡ true)
is_newly b x e = let p = and_parts (not b) x e in (not-true b p.0, p.1)

module _ (o s₀ : List Bool) where
  pub opening_none : (s : List Bool) → length s ≡ length o → Sub s o → Opening o s s 0 false
  opening_none s size h = record { size = size; sound = h; done = λ j l. (let z : ⊥ = omega arith in absurd z); grown = refl }

  module _ (s : List Bool) (k : ℕ) (grew : Bool) (old : Opening o s₀ s k grew) where
    pub opening_skip : (In o k → In s k) → Opening o s₀ s (k + 1) grew
    opening_skip h = record { size = old.size; sound = old.sound; done = below_more (λ j. In o j → In s j) k old.done h; grown = old.grown }

    longer : (b : Bool) → Grew b s₀ s → count s < count (set s k true) → count s₀ < count (set s k true)
    longer true g l = omega arith
    longer false g l = subst (λ x. count x < count (set s k true)) g l

    pub opening_more : at s k ≡ false → at o k ≡ true → Opening o s₀ (set s k true) (k + 1) true
    opening_more e f =
        let here : In o k = T_from_true (at o k) f in
        let in-o : k < length o = in_length o k here in
        let size = old.size in
        let within : k < length s = omega arith in
        let one = count_set s k within e in
        record {
          size = length-set s k true ∙ old.size;
          sound = set_inside s o k old.sound here;
          done = below_more (λ j. In o j → In (set s k true) j) k (λ j l t. in_set s k j (old.done j l t)) (λ t. in_set_same s k within);
          grown = longer grew old.grown (omega arith);
        }

    pub opening_all : length o ≤ k → s ≡ o
    opening_all h = same_set s o old.size old.sound (λ j t. old.done j (let l = in_length o j t in omega arith) t)
