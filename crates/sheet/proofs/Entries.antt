-- The places of a file, one after the other.
use Rattle.std.proofs.Common.{◌≡◌, ℕ, ◌+◌, ◌-◌, ◌*◌, ◌≤◌, List, [], ◌∷◌, ◌++◌, length, get_or, take, drop, Some, None, Ok, Err, Option, sym, refl, ap, ◌∙◌, append_assoc, append-nil, arith, length-append, length-take}
use Rattle.std.proofs.lemmas.List.{take_rest}
use Rattle.std.proofs.lemmas.Bool.{cond-true, cond-false, eq-eqb, le-ltb}
use Rattle.model.specs.Worlds.{World}
use Rattle.model.specs.Placements.{Placement}
use Rattle.sheet.specs.declared.refusal.LoadRefusal.{LoadRefusal}
use Rattle.sheet.specs.Changes.{unless}
use Rattle.sheet.specs.Files.{number, item_of, entries, count_in, entry_refusal, or_else, entries_refusal, checked, loaded}

two_first : (bytes : List ℕ) → 2 ≤ length bytes → entries bytes ≡ item_of (number (get_or bytes 0 0) (get_or bytes 1 0)) ∷ entries (drop 2 bytes)
unfolding entries
two_first [] h = absurd (omega arith)
two_first (a ∷ []) h = absurd (omega arith)
two_first (a ∷ b ∷ bytes) h = refl

-- what two bytes say, and then what the others do
pub entries_more : (bytes : List ℕ) → 2 ≤ length bytes → entries bytes ≡ item_of (number (get_or bytes 0 0) (get_or bytes 1 0)) ∷ entries (take (length bytes - 2) (drop 2 bytes))
entries_more bytes h = two_first bytes h ∙ ap (λ rest. item_of (number (get_or bytes 0 0) (get_or bytes 1 0)) ∷ entries rest) (sym (take_rest bytes 2))

pub entries_end : (bytes : List ℕ) → length bytes ≤ 1 → entries bytes ≡ []
unfolding entries
entries_end [] h = refl
entries_end (a ∷ []) h = refl
entries_end (a ∷ b ∷ bytes) h = absurd (omega arith)

-- some places have been seen, and what is left says the others
pub record Halfway (pool : ℕ) (seen : Placement) (left bytes : List ℕ) : Type 0 where
  pub refuses : entries_refusal pool seen (entries left) ≡ entries_refusal pool [] (entries bytes)
  pub places : seen ++ entries left ≡ entries bytes
  pub room : 2 * length seen + length left ≤ 512

pub nothing_seen : (pool : ℕ) (seen : Placement) (bytes : List ℕ) → seen ≡ [] → length bytes ≤ 512 → Halfway pool seen bytes bytes
nothing_seen pool seen bytes none few =
    record {
      refuses = ap (λ (p : Placement). entries_refusal pool p (entries bytes)) none;
      places = ap (λ (p : Placement). p ++ entries bytes) none;
      room = omega (arith, ap length none);
    }

module _ (pool : ℕ) (seen : Placement) (left bytes : List ℕ) (o : Option ℕ) (half : Halfway pool seen left bytes) (named : o ≡ item_of (number (get_or left 0 0) (get_or left 1 0))) (two : 2 ≤ length left) where
  abbrev rest : List ℕ
  rest = take (length left - 2) (drop 2 left)

  first_place : entries left ≡ o ∷ entries rest
  first_place = entries_more left two ∙ ap (λ (x : Option ℕ). x ∷ entries rest) (sym named)

  refused_here : (why : LoadRefusal) → entry_refusal pool seen o ≡ Some why → entries_refusal pool seen (o ∷ entries rest) ≡ Some why
  refused_here why e = ap (λ (x : Option LoadRefusal). or_else x (entries_refusal pool (seen ++ o ∷ []) (entries rest))) e

  refused_later : entry_refusal pool seen o ≡ None → entries_refusal pool seen (o ∷ entries rest) ≡ entries_refusal pool (seen ++ o ∷ []) (entries rest)
  refused_later e = ap (λ (x : Option LoadRefusal). or_else x (entries_refusal pool (seen ++ o ∷ []) (entries rest))) e

  pub refused_next : (why : LoadRefusal) → entry_refusal pool seen o ≡ Some why → Err why ≡ checked pool (entries bytes)
  refused_next why e =
      let r : entries_refusal pool [] (entries bytes) ≡ Some why = sym half.refuses ∙ ap (entries_refusal pool seen) first_place ∙ refused_here why e in
      sym (ap (λ (x : Option LoadRefusal). unless x (entries bytes)) r)

  pub seen_next : (seen' : Placement) → entry_refusal pool seen o ≡ None → seen' ≡ seen ++ o ∷ [] → Halfway pool seen' rest bytes
  seen_next seen' e pushed =
      record {
        refuses = ap (λ (p : Placement). entries_refusal pool p (entries rest)) pushed ∙ sym (refused_later e) ∙ ap (entries_refusal pool seen) (sym first_place) ∙ half.refuses;
        places = ap (λ (p : Placement). p ++ entries rest) pushed ∙ append_assoc seen (o ∷ []) (entries rest) ∙ ap (λ (p : Placement). seen ++ p) (sym first_place) ∙ half.places;
        room = omega (arith, ap length pushed, length-append seen (o ∷ []), length-take (length left - 2) (drop 2 left), half.room);
      }

-- nothing is left, so all places have been seen
module _ (pool : ℕ) (seen : Placement) (left bytes : List ℕ) (half : Halfway pool seen left bytes) (few : length left ≤ 1) where
  all_fine : entries_refusal pool [] (entries bytes) ≡ None
  all_fine = sym half.refuses ∙ ap (entries_refusal pool seen) (entries_end left few)

  all_seen : seen ≡ entries bytes
  all_seen = sym (append-nil seen) ∙ ap (λ (p : Placement). seen ++ p) (sym (entries_end left few)) ∙ half.places

  pub seen_all : Ok seen ≡ checked pool (entries bytes)
  seen_all = ap (λ (p : Placement). Ok p) all_seen ∙ sym (ap (λ (x : Option LoadRefusal). unless x (entries bytes)) all_fine)

-- a file of the right length and count is its places
pub well_sized : (w : World) (file : List ℕ) → 2 ≤ length file → count_in file ≡ length w.places → length file ≡ 2 + 2 * count_in file
    → checked (length w.pool) (entries (drop 2 file)) ≡ loaded w file
unfolding loaded
well_sized w file two counted long =
    sym (cond-false _ _ _ (le-ltb (length file) 2 two) ∙ cond-true _ _ _ (eq-eqb _ _ counted) ∙ cond-true _ _ _ (eq-eqb _ _ long))
