-- What words say in a rule, and how they are spelled.
use Rattle.std.proofs.Common.{◌≡◌, ℕ, ◌+◌, ◌==◌, ◌<◌, ◌≤◌, true, false, cond, ◌&&◌, ◌||◌, ◌⊎◌, ◌∷◌, ◌++◌, length, Some, None, codes, decimal, Option, sym, refl, ap, ◌∙◌, inl, inr, arith}
use Rattle.std.proofs.lemmas.Slice.Eq.{bytes_eq-Decides}
use Rattle.std.proofs.lemmas.List.{length-drop}
use Rattle.std.proofs.lemmas.Fmt.{decimal_nonempty}
use Rattle.std.proofs.lemmas.Bool.{and_parts, or_parts, or_from, both_ways, cond-true, cond-false, cond_both, false_from_ne_true}
use Rattle.std.specs.Str.{bytes_eq}
use Rattle.std.specs.List.{list_all, position_or_len}
use Rattle.words.specs.Spelling.{Bytes, naming, letter, first, sized, is_name, amount}
use Rattle.words.specs.Splitting.{front, behind, lacks}
use Rattle.words.specs.Saying.{Class, free, both, either, needs, other, class, with_amount, own_word, Alone, Counted, Spelled}
use Rattle.words.specs.Laws.{ClassLaws}
use Rattle.words.proofs.Splits.{front_behind}
use Rattle.words.proofs.Separators.{lacks_not, bytes_lack, front_next}
use Rattle.words.proofs.Amounts.{amount_reads, amount_decimal}

-- no rule word, or spelled as it should be
abbrev Sound : Bytes → Class → Type 0
Sound row c = (c ≡ other) ⊎ Spelled c row

counted_sound : (row : Bytes) (o : Option ℕ) → amount (behind 58 row) ≡ o → Sound row (with_amount (front 58 row) o)
counted_sound row None e = inl refl
counted_sound row (Some n) e =
    let a = amount_decimal (behind 58 row) n e in
    let at : ℕ = position_or_len (λ x. x == 58) row in
    let long : at < length row = omega (arith, length-drop (at + 1) row, ap length a.0, decimal_nonempty n (omega arith)) in
    let same : row ≡ front 58 row ++ 58 ∷ decimal n = front_behind 58 row long ∙ ap (λ l. front 58 row ++ 58 ∷ l) a.0 in
    let good : is_name (front 58 row) ≡ true → Counted (front 58 row) n row = λ k. record { named = k; some = a.1; most = a.2; same = same } in
    cond_both (is_name (front 58 row)) (needs (front 58 row) n) other (Sound row) (λ k. inr (inr (good k))) (λ k. inl refl)

pub class_spelled : (row : Bytes) → Sound row (class row)
unfolding class
class_spelled row =
    let counted = with_amount (front 58 row) (amount (behind 58 row)) in
    let plain = cond (is_name row) (needs row 1) counted in
    let joined = cond (bytes_eq row (codes "or")) either plain in
    let rest = cond (bytes_eq row (codes "and")) both joined in
    let alone : own_word row ≡ false → is_name row ≡ true → Alone row 1 row = λ k n. record { named = n; not_own = k; one = refl; same = refl } in
    cond_both (bytes_eq row (codes "free")) free rest (Sound row) (λ f. inr ((bytes_eq-Decides row (codes "free")).0 f)) (λ f.
    cond_both (bytes_eq row (codes "and")) both joined (Sound row) (λ a. inr ((bytes_eq-Decides row (codes "and")).0 a)) (λ a.
    cond_both (bytes_eq row (codes "or")) either plain (Sound row) (λ o. inr ((bytes_eq-Decides row (codes "or")).0 o)) (λ o.
    cond_both (is_name row) (needs row 1) counted (Sound row) (λ n. inr (inl (alone (or_from _ _ (or_from _ _ f a) o) n))) (λ n.
    counted_sound row (amount (behind 58 row)) refl))))

name_lacks : (row : Bytes) → is_name row ≡ true → lacks 58 row ≡ true
unfolding is_name
name_lacks row h = bytes_lack naming 58 refl row (and_parts (sized 12 row && letter (first row)) (list_all naming row) h).1

class_alone : (row : Bytes) → is_name row ≡ true → own_word row ≡ false → class row ≡ needs row 1
unfolding class
class_alone row n h =
    let a = or_parts (bytes_eq row (codes "free") || bytes_eq row (codes "and")) (bytes_eq row (codes "or")) h in
    let b = or_parts (bytes_eq row (codes "free")) (bytes_eq row (codes "and")) a.0 in
    cond-false _ _ _ b.0 ∙ cond-false _ _ _ b.1 ∙ cond-false _ _ _ a.1 ∙ cond-true _ _ _ n

class_colon : (row : Bytes) → lacks 58 row ≡ false → class row ≡ with_amount (front 58 row) (amount (behind 58 row))
unfolding class
class_colon row h =
    let differs : (word : Bytes) → lacks 58 word ≡ true → bytes_eq row word ≡ false =
    λ word k. false_from_ne_true _ (λ e. both_ways _ h (ap (lacks 58) ((bytes_eq-Decides row word).0 e) ∙ k))
    in
    cond-false _ _ _ (differs (codes "free") refl) ∙ cond-false _ _ _ (differs (codes "and") refl) ∙ cond-false _ _ _ (differs (codes "or") refl)
    ∙ cond-false _ _ _ (false_from_ne_true _ (λ e. both_ways _ h (name_lacks row e)))

class_counted : (name : Bytes) (n : ℕ) → is_name name ≡ true → 1 ≤ n → n ≤ 999 → class (name ++ 58 ∷ decimal n) ≡ needs name n
class_counted name n h some most =
    let f = front_next 58 name (decimal n) (name_lacks name h) in
    class_colon (name ++ 58 ∷ decimal n) (lacks_not 58 name (decimal n))
    ∙ ap (λ l. with_amount l (amount (behind 58 (name ++ 58 ∷ decimal n)))) f.0
    ∙ ap (λ l. with_amount name (amount l)) f.1
    ∙ ap (with_amount name) (amount_reads n some most)
    ∙ cond-true _ _ _ h

needs_says : (row name : Bytes) (n : ℕ) → Alone name n row ⊎ Counted name n row → class row ≡ needs name n
needs_says row name n (inl a) = ap class a.same ∙ class_alone name a.named a.not_own ∙ ap (needs name) (sym a.one)
needs_says row name n (inr k) = ap class k.same ∙ class_counted name n k.named k.some k.most

pub class_says : (row : Bytes) (c : Class) → Spelled c row → class row ≡ c
unfolding class
class_says row free e = ap class e
class_says row both e = ap class e
class_says row either e = ap class e
class_says row (needs name n) e = needs_says row name n e
class_says row other e = absurd e

pub class_laws : ClassLaws
class_laws = record { spelled = class_spelled; says = class_says }
