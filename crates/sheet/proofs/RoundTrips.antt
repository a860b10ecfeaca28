-- Loading what was written, and writing what was loaded.
use Rattle.std.proofs.Common.{◌≡◌, ℕ, zero, suc, ◌+◌, ◌-◌, ◌*◌, ◌<◌, ◌≤◌, Bool, true, false, cond, T, eqb, List, [], ◌∷◌, ◌++◌, map, length, drop, Some, None, Ok, Err, Option, Result, sym, refl, ap, ◌∙◌, subst, ap₂, arith, length-drop}
use lib.ListN.{length-map}
use Rattle.std.specs.List.{flat_map, AllByRecursion}
use Rattle.std.proofs.lemmas.Nat.{div-add-mod', div-mul-add, mod-mul-add, div_below, mod_below}
use Rattle.std.proofs.lemmas.Bool.{cond-false, ne_eqb, eqb-true, ltb-false}
use Rattle.model.specs.Worlds.{World}
use Rattle.model.specs.Proper.{proper}
use Rattle.model.specs.Placements.{Placement, item_at, Placed}
use Rattle.model.specs.Boards.{is_set}
use Rattle.model.proofs.Limits.{proper_facts}
use Rattle.sheet.specs.declared.refusal.LoadRefusal.{LoadRefusal}
use Rattle.sheet.specs.Changes.{unless}
use Rattle.sheet.specs.Files.{two_bytes, number, entry, item_of, file_of, numbers, entries, count_in, entries_refusal, checked, loaded}
use Rattle.sheet.specs.Laws.{Bytes, FileLaws}
use Rattle.sheet.proofs.Entries.{well_sized}
use Rattle.sheet.proofs.Writing.{length_file}
use Rattle.sheet.proofs.Accepting.{fine, is_fine}

-- numbers and bytes
numbers_back : (ns : List ℕ) → numbers (flat_map two_bytes ns) ≡ ns
numbers_back [] = refl
numbers_back (n ∷ ns) = ap₂ (λ m ms. m ∷ ms) (div-add-mod' n 256) (numbers_back ns)

bytes_back : (high low : ℕ) → low < 256 → two_bytes (number high low) ≡ high ∷ low ∷ []
bytes_back high low h = ap₂ (λ a b. a ∷ b ∷ []) (div-mul-add high 256 low h) (mod-mul-add high 256 low h)

rows_back : (row : List ℕ) (n : ℕ) → length row ≡ 2 * n → Bytes row → flat_map two_bytes (numbers row) ≡ row
rows_back [] n e b = refl
rows_back (x ∷ []) n e b = absurd (omega arith)
rows_back (high ∷ low ∷ row) n e b = ap₂ (λ two rest. two ++ rest) (bytes_back high low b.1.0) (rows_back row (n - 1) (omega arith) b.1.1)

length_numbers : (row : List ℕ) (n : ℕ) → length row ≡ 2 * n → length (numbers row) ≡ n
length_numbers [] n e = omega arith
length_numbers (x ∷ []) n e = absurd (omega arith)
length_numbers (high ∷ low ∷ row) n e = omega (arith, length_numbers row (n - 1) (omega arith))

-- records and their numbers
item_back : (o : Option ℕ) → item_of (entry o) ≡ o
item_back None = refl
item_back (Some i) = cond-false (eqb (i + 1) 0) None (Some (i + 1 - 1)) (ne_eqb (i + 1) 0 (λ e. omega arith)) ∙ ap (λ n. Some n) (omega arith)

entry_back : (n : ℕ) → entry (item_of n) ≡ n
entry_back zero = refl
entry_back (suc n) = ap entry (cond-false (eqb (suc n) 0) None (Some (suc n - 1)) (ne_eqb (suc n) 0 (λ e. omega arith))) ∙ omega arith

items_back : (p : Placement) → map item_of (map entry p) ≡ p
items_back [] = refl
items_back (o ∷ p) = ap₂ (λ x xs. x ∷ xs) (item_back o) (items_back p)

entries_back : (ns : List ℕ) → map entry (map item_of ns) ≡ ns
entries_back [] = refl
entries_back (n ∷ ns) = ap₂ (λ x xs. x ∷ xs) (entry_back n) (entries_back ns)

-- what is written is read back
module _ (w : World) (p : Placement) (on : Placed w p) where
  same_places : entries (drop 2 (file_of p)) ≡ p
  unfolding file_of entries
  same_places = ap (map item_of) (numbers_back (map entry p)) ∙ items_back p

  same_count : count_in (file_of p) ≡ length p
  unfolding file_of
  same_count = div-add-mod' (length p) 256

  passes : checked (length w.pool) p ≡ Ok p
  unfolding is_set
  passes = ap (λ (x : Option LoadRefusal). unless x p) (fine (length w.pool) [] p (λ k i e. (on.lies.known k i e, refl)) on.once)

  pub read_back : loaded w (file_of p) ≡ Ok p
  read_back =
      let long = length_file p in
      sym (well_sized w (file_of p) (omega arith) (same_count ∙ on.lies.fits) (long ∙ ap (λ n. 2 + 2 * n) (sym same_count)))
      ∙ ap (checked (length w.pool)) same_places ∙ passes

-- what is known of a file that is accepted
record Accepted (w : World) (file : List ℕ) (p : Placement) : Type 0 where
  two : 2 ≤ length file
  counted : count_in file ≡ length w.places
  long : length file ≡ 2 + 2 * count_in file
  places : entries (drop 2 file) ≡ p
  refused_nowhere : entries_refusal (length w.pool) [] p ≡ None

module _ (p : Placement) where
  not_refused : (b : Bool) (r : Result Placement LoadRefusal) (why : LoadRefusal) → cond b r (Err why) ≡ Ok p → (b ≡ true) × (r ≡ Ok p)
  not_refused true r why e = (refl, e)
  not_refused false r why e = absurd (let z : ◌≡◌ {A = ℕ} 0 1 = cc in omega arith)

  not_refused_first : (b : Bool) (r : Result Placement LoadRefusal) (why : LoadRefusal) → cond b (Err why) r ≡ Ok p → (b ≡ false) × (r ≡ Ok p)
  not_refused_first false r why e = (refl, e)
  not_refused_first true r why e = absurd (let z : ◌≡◌ {A = ℕ} 0 1 = cc in omega arith)

  passed : (o : Option LoadRefusal) (q : Placement) → unless o q ≡ Ok p → (o ≡ None) × (q ≡ p)
  passed None q e = (refl, cc)
  passed (Some why) q e = absurd (let z : ◌≡◌ {A = ℕ} 0 1 = cc in omega arith)

accepted : (w : World) (file : List ℕ) (p : Placement) → loaded w file ≡ Ok p → Accepted w file p
unfolding loaded
accepted w file p e =
    let a = not_refused_first p _ _ _ e in
    let b = not_refused p _ _ _ a.1 in
    let c = not_refused p _ _ _ b.1 in
    let d = passed p _ _ c.1 in
    record {
      two = ltb-false _ _ a.0;
      counted = eqb-true _ _ b.0;
      long = eqb-true _ _ c.0;
      places = d.1;
      refused_nowhere = subst (λ (q : Placement). entries_refusal (length w.pool) [] q ≡ None) d.1 d.0;
    }

module _ (w : World) (file : List ℕ) (p : Placement) (ok : Accepted w file p) where
  rest_length : length (drop 2 file) ≡ 2 * count_in file
  rest_length = omega (arith, length-drop 2 file, ok.long)

  as_many : length p ≡ count_in file
  unfolding entries
  as_many = ap length (sym ok.places) ∙ length-map (numbers (drop 2 file)) item_of ∙ length_numbers (drop 2 file) (count_in file) rest_length

  is_placed : Placed w p
  is_placed =
      let f = is_fine (length w.pool) [] p ok.refused_nowhere in
      record { lies = record { fits = as_many ∙ ok.counted; known = λ k i e. (f.known k i e).0 }; once = f.once }

opened : (file : List ℕ) → 2 ≤ length file → Bytes file → two_bytes (count_in file) ++ drop 2 file ≡ file
opened [] h b = absurd (omega arith)
opened (x ∷ []) h b = absurd (omega arith)
opened (high ∷ low ∷ file) h b = ap (λ two. two ++ file) (bytes_back high low b.1.0)

bytes_rest : (file : List ℕ) → Bytes file → Bytes (drop 2 file)
bytes_rest [] b = tt
bytes_rest (x ∷ []) b = tt
bytes_rest (high ∷ low ∷ file) b = b.1.1

written_back : (w : World) (file : List ℕ) (p : Placement) → Bytes file → Accepted w file p → file_of p ≡ file
unfolding file_of entries
written_back w file p b ok =
    let row = drop 2 file in
    let same : map entry p ≡ numbers row = ap (map entry) (sym ok.places) ∙ entries_back (numbers row) in
    ap₂ (λ (n : ℕ) (ns : List ℕ). two_bytes n ++ flat_map two_bytes ns) (as_many w file p ok) same
    ∙ ap (λ l. two_bytes (count_in file) ++ l) (rows_back row (count_in file) (rest_length w file p ok) (bytes_rest file b))
    ∙ opened file ok.two b

-- a file's numbers are bytes
bytes_of : (ns : List ℕ) → AllByRecursion (λ n. n ≤ 256) ns → Bytes (flat_map two_bytes ns)
bytes_of [] h = tt
bytes_of (n ∷ ns) h = (div_below n 256 256 (omega arith) (omega (arith, h.0)), (mod_below n 256 (omega arith), bytes_of ns h.1))

entry_small : (pool : ℕ) (o : Option ℕ) → pool ≤ 256 → ((i : ℕ) → o ≡ Some i → i < pool) → entry o ≤ 256
entry_small pool None few h = omega arith
entry_small pool (Some i) few h = omega (arith, h i refl)

entries_small : (pool : ℕ) (p : Placement) → pool ≤ 256 → ((k i : ℕ) → item_at p k ≡ Some i → i < pool) → AllByRecursion (λ n. n ≤ 256) (map entry p)
entries_small pool [] few h = tt
entries_small pool (o ∷ p) few h = (entry_small pool o few (h 0), entries_small pool p few (λ k. h (suc k)))

file_bytes : (w : World) (p : Placement) → T (proper w) → Placed w p → Bytes (file_of p)
unfolding file_of
file_bytes w p t on =
    let limits = proper_facts w t in
    bytes_of (length p ∷ map entry p) (omega (arith, on.lies.fits, limits.few_places), entries_small (length w.pool) p limits.few_items on.lies.known)

pub file_laws : FileLaws
file_laws = record {
  long = length_file;
  bytes = file_bytes;
  read_back = read_back;
  written_back = λ w file p b e. written_back w file p b (accepted w file p e);
  placed = λ w file p e. is_placed w file p (accepted w file p e);
}
