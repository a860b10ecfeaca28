-- Rules, word by word: how many answers wait, and what a well formed rule leaves.
use Rattle.std.proofs.Common.{◌≡◌, ℕ, ◌+◌, ◌-◌, ◌<◌, Bool, true, false, cond, ◌&&◌, ◌||◌, T, ltb, List, [], ◌∷◌, ◌++◌, length, Some, None, Option, sym, refl, ap, ◌∙◌, arith, eqb→eq, ltb→lt}
use Rattle.inventory.specs.Meaning.{Meaning, Lawful, held}
use Rattle.model.specs.declared.rule_word.RuleWord.{RuleWord}
use Rattle.model.specs.declared.rule_word.RuleWord.TheVariants.{Free, Need, And, Or}
use Rattle.model.specs.Rules.{joined, put_down, pass, last, reads, weigh, weighed, one_left, formed}
use Rattle.model.specs.Laws.{RuleLaw}
use Rattle.model.proofs.Sets.{and_map, or_map, none_some}

chosen : (b : Bool) (n k : ℕ) → cond b (Some n) None ≡ Some k → T b × (n ≡ k)
chosen true n k e = (tt, cc)
chosen false n k e = none_some k e

-- a word that found what it needs, and the words after it
onward : (o : Option ℕ) (rule : List RuleWord) (k : ℕ) → ◌≡◌ {A = Option ℕ} (elim o [ Some j ↦ weighed j rule | None ↦ None ]) (Some k) → (j : ℕ) × (o ≡ Some j) × (weighed j rule ≡ Some k)
onward (Some j) rule k e = (j, refl, e)
onward None rule k e = none_some k e

pub weighed_on : (a b : List RuleWord) (n k : ℕ) → weighed n a ≡ Some k → weighed n (a ++ b) ≡ weighed k b
weighed_on [] b n k e = let same : n ≡ k = cc in ap (λ x. weighed x b) same
weighed_on (word ∷ a) b n k e =
    let o = onward (weigh n word) a k e in
    ap (λ x. elim x [ Some j ↦ weighed j (a ++ b) | None ↦ None ]) o.1 ∙ weighed_on a b o.0 k o.2

none_after : (o : Option ℕ) (f g : ℕ → Option ℕ) → ((j : ℕ) → f j ≡ None → g j ≡ None) → ◌≡◌ {A = Option ℕ} (elim o [ Some j ↦ f j | None ↦ None ]) None → ◌≡◌ {A = Option ℕ} (elim o [ Some j ↦ g j | None ↦ None ]) None
none_after (Some j) f g h e = h j e
none_after None f g h e = refl

pub weighed_off : (a b : List RuleWord) (n : ℕ) → weighed n a ≡ None → weighed n (a ++ b) ≡ None
weighed_off [] b n e = none_some n (sym e)
weighed_off (word ∷ a) b n e = none_after (weigh n word) (λ j. weighed j a) (λ j. weighed j (a ++ b)) (weighed_off a b) e

module _ (meets : ℕ → ℕ → Bool) where
  joined_above : (op : Bool → Bool → Bool) (s base : List Bool) → 1 < length s → (joined op (s ++ base) ≡ joined op s ++ base) × (length (joined op s) ≡ length s - 1)
  joined_above op [] base h = let z : ⊥ = omega arith in absurd z
  joined_above op (a ∷ []) base h = let z : ⊥ = omega arith in absurd z
  joined_above op (a ∷ b ∷ s) base h = (refl, omega arith)

  -- a word leaves the answers alone that wait below those it needs
  word_above : (word : RuleWord) (s base : List Bool) (k : ℕ) → weigh (length s) word ≡ Some k → (put_down meets word (s ++ base) ≡ put_down meets word s ++ base) × (length (put_down meets word s) ≡ k)
  word_above Free s base k e = let c = chosen (ltb (length s) 8) (length s + 1) k e in (refl, omega (arith, c.1))
  word_above (Need code amount) s base k e = let c = chosen (ltb (length s) 8) (length s + 1) k e in (refl, omega (arith, c.1))
  word_above And s base k e = let c = chosen (ltb 1 (length s)) (length s - 1) k e in let j = joined_above ◌&&◌ s base (ltb→lt 1 (length s) c.0) in (j.0, j.1 ∙ c.1)
  word_above Or s base k e = let c = chosen (ltb 1 (length s)) (length s - 1) k e in let j = joined_above ◌||◌ s base (ltb→lt 1 (length s) c.0) in (j.0, j.1 ∙ c.1)

  rule_above : (rule : List RuleWord) (s base : List Bool) (k : ℕ) → weighed (length s) rule ≡ Some k → (pass meets rule (s ++ base) ≡ pass meets rule s ++ base) × (length (pass meets rule s) ≡ k)
  rule_above [] s base k e = (refl, cc)
  rule_above (word ∷ rule) s base k e =
      let o = onward (weigh (length s) word) rule k e in
      let here = word_above word s base o.0 o.1 in
      let later = rule_above rule (put_down meets word s) base k (ap (λ n. weighed n rule) here.1 ∙ o.2) in
      (ap (pass meets rule) here.0 ∙ later.0, later.1)

  one_is : (o : Option ℕ) → T (one_left o) → o ≡ Some 1
  one_is (Some n) t = ap Some (eqb→eq n 1 t)
  one_is None t = absurd t

  lone : (s : List Bool) → length s ≡ 1 → s ≡ last s ∷ []
  lone [] e = let z : ⊥ = omega arith in absurd z
  lone (a ∷ []) e = refl
  lone (a ∷ b ∷ s) e = let z : ⊥ = omega arith in absurd z

  pub answers : (rule : List RuleWord) → T (formed rule) → (waiting : List Bool) → pass meets rule waiting ≡ reads meets rule ∷ waiting
  answers rule t waiting =
      let r = rule_above rule [] waiting 1 (one_is (weighed 0 rule) t) in
      r.0 ∙ ap (λ s. s ++ waiting) (lone (pass meets rule []) r.1)

  pub pass_append : (a b : List RuleWord) (s : List Bool) → pass meets (a ++ b) s ≡ pass meets b (pass meets a s)
  pass_append [] b s = refl
  pass_append (word ∷ a) b s = pass_append a b (put_down meets word s)

  joins : (word : RuleWord) (a b : List RuleWord) → T (formed a) → T (formed b) → reads meets (a ++ (b ++ word ∷ [])) ≡ last (put_down meets word (reads meets b ∷ reads meets a ∷ []))
  joins word a b f g =
      ap last (pass_append a (b ++ word ∷ []) [] ∙ ap (pass meets (b ++ word ∷ [])) (answers a f []) ∙ pass_append b (word ∷ []) (reads meets a ∷ []) ∙ ap (put_down meets word) (answers b g (reads meets a ∷ [])))

  pub rule_law : RuleLaw meets
  rule_law = record {
    goes_on = weighed_on;
    ends = weighed_off;
    counts = λ rule waiting k e. (rule_above rule waiting [] k e).1;
    one_answer = answers;
    both = joins And;
    either = joins Or;
  }

-- a rule that is met stays met where more is held

abbrev Less : List Bool → List Bool → Type 0
Less [] [] = Unit {0}
Less [] (b ∷ t) = ⊥
Less (a ∷ s) [] = ⊥
Less (a ∷ s) (b ∷ t) = (T a → T b) × Less s t

joined_less : (op : Bool → Bool → Bool) → ((a b c d : Bool) → (T a → T c) → (T b → T d) → T (op a b) → T (op c d)) → (s t : List Bool) → Less s t → Less (joined op s) (joined op t)
joined_less op h [] [] l = tt
joined_less op h [] (b ∷ t) l = absurd l
joined_less op h (a ∷ s) [] l = absurd l
joined_less op h (a ∷ []) (b ∷ []) l = l
joined_less op h (a ∷ []) (b ∷ b' ∷ t) l = absurd l.1
joined_less op h (a ∷ a' ∷ s) (b ∷ []) l = absurd l.1
joined_less op h (a ∷ a' ∷ s) (b ∷ b' ∷ t) l = (h a' a b' b l.1.0 l.0, l.1.1)

module _ (f g : ℕ → ℕ → Bool) (h : (c n : ℕ) → T (f c n) → T (g c n)) where
  put_down_less : (word : RuleWord) (s t : List Bool) → Less s t → Less (put_down f word s) (put_down g word t)
  put_down_less Free s t l = (λ x. x, l)
  put_down_less (Need code n) s t l = (h code n, l)
  put_down_less And s t l = joined_less ◌&&◌ and_map s t l
  put_down_less Or s t l = joined_less ◌||◌ or_map s t l

  pass_less : (rule : List RuleWord) (s t : List Bool) → Less s t → Less (pass f rule s) (pass g rule t)
  pass_less [] s t l = l
  pass_less (word ∷ rule) s t l = pass_less rule (put_down f word s) (put_down g word t) (put_down_less word s t l)

  last_less : (s t : List Bool) → Less s t → T (last s) → T (last t)
  last_less [] [] l x = x
  last_less [] (b ∷ t) l x = absurd l
  last_less (a ∷ s) [] l x = absurd l
  last_less (a ∷ s) (b ∷ t) l x = l.0 x

  pub reads_grow : (rule : List RuleWord) → T (reads f rule) → T (reads g rule)
  reads_grow rule = last_less (pass f rule []) (pass g rule []) (pass_less rule [] [] tt)

pub held_keeps : (m : Meaning) → Lawful m → (u v : m.Value) → m.Below u v → (code n : ℕ) → T (held m u code n) → T (held m v code n)
held_keeps m l u v b code n = and_map (ltb 0 n) _ (ltb 0 n) _ (λ t. t) (l.keeps u v code n b)

pub rule_grows : (m : Meaning) → Lawful m → (u v : m.Value) → m.Below u v → (rule : List RuleWord) → T (reads (held m u) rule) → T (reads (held m v) rule)
rule_grows m l u v b = reads_grow (held m u) (held m v) (held_keeps m l u v b)
