-- Amounts and the numbers that they spell.
use Rattle.std.proofs.Common.{◌≡◌, ℕ, zero, suc, ◌^◌, ◌<◌, ◌≤◌, Bool, true, false, cond, not, ◌&&◌, eqb, leb, length, Some, None, decimal, Option, sym, refl, ap, ◌∙◌, arith, rules}
use Rattle.std.proofs.lemmas.Str.Parse.{IsNumeralModel, numerals_by_fold, digits_value_short}
use Rattle.std.proofs.lemmas.Fmt.{digits_decimal, digits_value-decimal, decimal-digits_value, decimal_nonempty, decimal_digit, length-decimal-le, first_decimal}
use Rattle.std.proofs.lemmas.Bool.{and_parts, and_from, leb-true, le-leb, ne_eqb, not-true, not_from_false, eq-eqb, false≢true}
use Rattle.std.specs.List.{list_all}
use Rattle.words.specs.Spelling.{Bytes, digit, first, sized, spelled, number, amount}
use Rattle.words.specs.declared.spelling.Alphabet.TheVariants.{Counting}
use Rattle.words.specs.Laws.{AmountLaws}

own : IsNumeralModel (λ row. list_all digit row ≡ true) (number 0)
own = numerals_by_fold _ (search rules) number (search rules)

pub amount_reads : (n : ℕ) → 1 ≤ n → n ≤ 999 → amount (decimal n) ≡ Some n
unfolding amount
amount_reads n h k =
    let few : length (decimal n) ≤ 3 = length-decimal-le 3 n (omega arith) (omega arith) (omega arith) in
    let some : 1 ≤ length (decimal n) = decimal_nonempty n (omega arith) in
    let lead : 48 < first (decimal n) = first_decimal n (omega arith) (omega arith) in
    let ok : spelled Counting (decimal n) ≡ true =
    and_from _ _ (and_from _ _ (and_from _ _ (le-leb 1 _ some) (le-leb _ 3 few)) (not_from_false _ (ne_eqb (first (decimal n)) 48 (λ e. omega arith)))) (digits_decimal own n (omega arith))
    in
    ap (λ t. cond t (Some (number 0 (decimal n))) None) ok ∙ ap Some (digits_value-decimal own n (omega arith))

-- what is known of bytes that spell an amount
record AmountOf (row : Bytes) (n : ℕ) : Type 0 where
  ok : spelled Counting row ≡ true
  is : number 0 row ≡ n

amount_of_at : (row : Bytes) (n : ℕ) (t : Bool) → spelled Counting row ≡ t → ◌≡◌ {A = Option ℕ} (cond t (Some (number 0 row)) None) (Some n) → AmountOf row n
amount_of_at row n true e p = record { ok = e; is = cc }
amount_of_at row n false e p = let z : ◌≡◌ {A = ℕ} 0 1 = cc in absurd (omega arith)

amount_of : (row : Bytes) (n : ℕ) → amount row ≡ Some n → AmountOf row n
unfolding amount
amount_of row n p = amount_of_at row n (spelled Counting row) refl p

-- 0 begins with the digit 0
above_zero : (row : Bytes) (n : ℕ) → row ≡ decimal n → (first row ≡ 48 → ⊥) → 1 ≤ n
above_zero row zero e ne = absurd (ne (ap first (e ∙ decimal_digit 0 (omega arith))))
above_zero row (suc n) e ne = omega arith

pub amount_decimal : (row : Bytes) (n : ℕ) → amount row ≡ Some n → (row ≡ decimal n) × (1 ≤ n) × (n ≤ 999)
amount_decimal row n p =
    let s = amount_of row n p in
    let digits = and_parts (sized 3 row && not (eqb (first row) 48)) (list_all digit row) s.ok in
    let lead = and_parts (sized 3 row) (not (eqb (first row) 48)) digits.0 in
    let size = and_parts (leb 1 (length row)) (leb (length row) 3) lead.0 in
    let some : 1 ≤ length row = leb-true 1 _ size.0 in
    let few : length row ≤ 3 = leb-true _ 3 size.1 in
    let short : number 0 row < 10 ^ 3 = digits_value_short own row 3 digits.1 few in
    let ne : first row ≡ 48 → ⊥ = λ e. false≢true (sym (not-true (eqb (first row) 48) lead.1) ∙ eq-eqb (first row) 48 e) in
    let back : decimal (number 0 row) ≡ row = decimal-digits_value own row digits.1 some (λ e. absurd (ne e)) (omega arith) in
    let is : row ≡ decimal n = sym back ∙ ap decimal s.is in
    (is, above_zero row n is ne, omega (arith, s.is))

pub amount_laws : AmountLaws
amount_laws = record {
  reads = amount_reads;
  spelled = λ row n p. (amount_decimal row n p).0;
  some = λ row n p. (amount_decimal row n p).1;
  most = λ row n p. (amount_decimal row n p).2;
}
