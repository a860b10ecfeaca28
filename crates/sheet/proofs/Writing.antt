-- A file that is written into a buffer, number by number.
use Rattle.std.proofs.Common.{◌≡◌, ℕ, ◌+◌, ◌*◌, ◌/◌, ◌%◌, ◌<◌, ◌≤◌, List, [], ◌∷◌, ◌++◌, map, length, get_or, take, drop, set, Some, None, Option, sym, refl, ap, ◌∙◌, ap₂, append_assoc, arith, length-take}
use lib.ListN.{length-map}
use Rattle.std.specs.List.{flat_map}
use Rattle.std.proofs.lemmas.List.{set_at, drop_more, take_at, drop_at, drop-drop, drop-set-lt, take_all, map_more, flat_map_more, length_push}
use Rattle.model.specs.Placements.{Placement, item_at}
use Rattle.sheet.specs.Files.{two_bytes, entry, file_of}

length_joined : (ns : List ℕ) → length (flat_map two_bytes ns) ≡ 2 * length ns
length_joined [] = refl
length_joined (n ∷ ns) = omega (arith, length_joined ns)

pub length_file : (p : Placement) → length (file_of p) ≡ 2 + 2 * length p
unfolding file_of
length_file p = omega (arith, length_joined (length p ∷ map entry p), length-map p entry)

-- the file up to place k
abbrev pub front : Placement → ℕ → List ℕ
front p k = flat_map two_bytes (length p ∷ map entry (take k p))

length_front : (p : Placement) (k : ℕ) → k ≤ length p → length (front p k) ≡ 2 + 2 * k
length_front p k h = omega (arith, length_joined (length p ∷ map entry (take k p)), length-map (take k p) entry, length-take k p)

front_more : (p : Placement) (k : ℕ) → k < length p → front p (k + 1) ≡ front p k ++ two_bytes (entry (get_or p k None))
front_more p k h = ap (λ ns. flat_map two_bytes (length p ∷ ns)) (map_more entry p k None h) ∙ sym (flat_map_more two_bytes [] (length p ∷ map entry (take k p)) (entry (get_or p k None)))

-- two bytes written behind the others
put_next : (done start two : List ℕ) (at : ℕ) → length done ≡ at → take at (done ++ drop at start) ++ two ++ drop (at + 2) (done ++ drop at start) ≡ (done ++ two) ++ drop (at + 2) start
put_next done start two at n =
    ap₂ (λ (front rest : List ℕ). front ++ two ++ rest) (take_at done (drop at start) at n)
    (sym (drop-drop 2 at (done ++ drop at start)) ∙ ap (drop 2) (drop_at done (drop at start) at n) ∙ drop-drop 2 at start)

opened : (start : List ℕ) (a b : ℕ) → 2 ≤ length start → set (set start 0 a) 1 b ≡ a ∷ b ∷ drop 2 start
opened [] a b h = absurd (omega arith)
opened (x ∷ []) a b h = absurd (omega arith)
opened (x ∷ y ∷ start) a b h = refl

-- the count stands in front
pub begun : (p : Placement) (start buffer : List ℕ) → 2 ≤ length start → buffer ≡ set (set start 0 (length p / 256)) 1 (length p % 256) → buffer ≡ front p 0 ++ drop (2 + 2 * 0) buffer
begun p start buffer h e =
    let e' = e ∙ opened start (length p / 256) (length p % 256) h in
    e' ∙ ap (λ l. front p 0 ++ l) (sym (ap (drop 2) e'))

-- the number of one place more is written
pub one_more : (p : Placement) (start buffer : List ℕ) (k n : ℕ) → buffer ≡ front p k ++ drop (2 + 2 * k) start → k < length p → n ≡ entry (get_or p k None)
    → take (2 + 2 * k) buffer ++ two_bytes n ++ drop (2 + 2 * k + 2) buffer ≡ front p (k + 1) ++ drop (2 + 2 * (k + 1)) start
one_more p start buffer k n before h e =
    ap (λ b. take (2 + 2 * k) b ++ two_bytes n ++ drop (2 + 2 * k + 2) b) before
    ∙ put_next (front p k) start (two_bytes n) (2 + 2 * k) (length_front p k (omega arith))
    ∙ ap (λ x. (front p k ++ two_bytes x) ++ drop (2 + 2 * k + 2) start) e
    ∙ ap (λ l. l ++ drop (2 + 2 * k + 2) start) (sym (front_more p k h))
    ∙ ap (λ at. front p (k + 1) ++ drop at start) (omega arith)

-- the whole file stands in front, and behind it what was there
pub finished : (p : Placement) (start buffer : List ℕ) (k : ℕ) → buffer ≡ front p k ++ drop (2 + 2 * k) start → length p ≡ k → buffer ≡ file_of p ++ drop (length (file_of p)) start
unfolding file_of
finished p start buffer k e n =
    let whole : take k p ≡ p = take_all k p (omega arith) in
    let long : 2 + 2 * k ≡ length (file_of p) = omega (arith, length_file p) in
    e ∙ ap (λ (q : Placement). flat_map two_bytes (length p ∷ map entry q) ++ drop (2 + 2 * k) start) whole ∙ ap (λ m. file_of p ++ drop m start) long

-- the same where the two bytes of a number, and those of the count, are set one by one
set_next : (done start : List ℕ) (at a b : ℕ) → length done ≡ at → at + 2 ≤ length start
    → set (set (done ++ drop at start) at a) (at + 1) b ≡ (done ++ (a ∷ b ∷ [])) ++ drop (at + 2) start
set_next done start at a b n room =
    let rest = drop (at + 2) start in
    let x = get_or start at 0 in
    let y = get_or start (at + 1) 0 in
    let two : drop at start ≡ x ∷ y ∷ rest = drop_more start at 0 (omega arith) ∙ ap (λ l. x ∷ l) (drop_more start (at + 1) 0 (omega arith) ∙ ap (λ k. y ∷ drop k start) (omega arith)) in
    let one : set (done ++ drop at start) at a ≡ (done ++ a ∷ []) ++ y ∷ rest = ap (λ l. set (done ++ l) at a) two ∙ set_at done x (y ∷ rest) a at n ∙ sym (append_assoc done (a ∷ []) (y ∷ rest)) in
    ap (λ l. set l (at + 1) b) one ∙ set_at (done ++ a ∷ []) y rest b (at + 1) (length_push done a ∙ ap (λ k. k + 1) n) ∙ append_assoc done (a ∷ []) (b ∷ rest) ∙ sym (append_assoc done (a ∷ b ∷ []) rest)

pub one_more_set : (p : Placement) (start buffer : List ℕ) (k : ℕ) → buffer ≡ front p k ++ drop (2 + 2 * k) start → 2 + 2 * length p ≤ length start
    → (n : ℕ) → k < length p → n ≡ entry (get_or p k None) → set (set buffer (2 + 2 * k) (n / 256)) (2 + 2 * k + 1) (n % 256) ≡ front p (k + 1) ++ drop (2 + 2 * (k + 1)) start
one_more_set p start buffer k before room n h e =
    ap (λ b. set (set b (2 + 2 * k) (n / 256)) (2 + 2 * k + 1) (n % 256)) before
    ∙ set_next (front p k) start (2 + 2 * k) (n / 256) (n % 256) (length_front p k (omega arith)) (omega arith)
    ∙ ap (λ x. (front p k ++ two_bytes x) ++ drop (2 + 2 * k + 2) start) e
    ∙ ap (λ l. l ++ drop (2 + 2 * k + 2) start) (sym (front_more p k h))
    ∙ ap (λ at. front p (k + 1) ++ drop at start) (omega arith)

pub finished_set : (p : Placement) (start begin buffer : List ℕ) (k : ℕ) → buffer ≡ front p k ++ drop (2 + 2 * k) begin → length p ≡ k → begin ≡ set (set start 0 (length p / 256)) 1 (length p % 256)
    → buffer ≡ file_of p ++ drop (length (file_of p)) start
finished_set p start begin buffer k e n b =
    let kept : drop (2 + 2 * k) begin ≡ drop (2 + 2 * k) start =
    ap (drop (2 + 2 * k)) b ∙ drop-set-lt (2 + 2 * k) (set start 0 (length p / 256)) 1 (length p % 256) (omega arith) ∙ drop-set-lt (2 + 2 * k) start 0 (length p / 256) (omega arith) in
    finished p start buffer k (e ∙ ap (λ l. front p k ++ l) kept) n

entry_at_most : (o : Option ℕ) → ((i : ℕ) → o ≡ Some i → i < 256) → entry o ≤ 256
entry_at_most None small = omega arith
entry_at_most (Some i) small = omega (arith, small i refl)

pub entry_small : (p : Placement) → ((k i : ℕ) → item_at p k ≡ Some i → i < 256) → (k : ℕ) → entry (item_at p k) ≤ 256
entry_small p small k = entry_at_most (item_at p k) (small k)
