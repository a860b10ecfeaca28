-- Parts, what is glued from them, and the separators that they lack.
use Rattle.std.proofs.Common.{◌≡◌, ℕ, ◌==◌, Bool, true, false, cond, not, ◌&&◌, eqb, All, List, [], ◌∷◌, ◌++◌, length, drop, ◌+◌, sym, refl, ap, ◌∙◌, arith}
use Rattle.std.specs.List.{list_all, onto_first, position_or_len}
use Rattle.std.proofs.Math.Seq.{drop-append-add}
use Rattle.std.proofs.lemmas.Grind.{common_steps}
use Rattle.std.proofs.lemmas.Bool.{and_parts, and_from, and_left, and_right, eq-eqb, not-true, not_from_false, ne_eqb, false≢true}
use Rattle.std.proofs.lemmas.List.Sums.{AllPass-from_list_all, list_all-from_AllPass, position_or_len_is}
use Rattle.std.proofs.lemmas.List.Folds.{list_all-append}
use Rattle.std.proofs.lemmas.List.Splits.{slice_split_none, slice_split_at, join_with_byte-slice_split}
use Rattle.words.specs.Spelling.{Bytes, wording, is_word, sized}
use Rattle.words.specs.Splitting.{front, behind, parts, glued, lacks}
use Rattle.words.specs.Laws.{SplittingLaws, SeparatorLaws}

-- there is a first part
abbrev pub SomePart : List Bytes → Type 0
SomePart ps = (q : Bytes) × ((qs : List Bytes) × (ps ≡ q ∷ qs))

onto_some : (x : ℕ) (ps : List Bytes) → SomePart (onto_first x ps)
onto_some x [] = (x ∷ [], ([], refl))
onto_some x (p ∷ ps) = (x ∷ p, (ps, refl))

parts_some_at : (x : ℕ) (ps : List Bytes) (t : Bool) → SomePart (cond t ([] ∷ ps) (onto_first x ps))
parts_some_at x ps true = ([], (ps, refl))
parts_some_at x ps false = onto_some x ps

pub parts_some : (b : ℕ) (xs : Bytes) → SomePart (parts b xs)
unfolding parts
parts_some b [] = ([], ([], refl))
parts_some b (x ∷ xs) = parts_some_at x (parts b xs) (eqb x b)

-- a row that lacks the separator, byte by byte
none_is : (b : ℕ) (xs : Bytes) → lacks b xs ≡ true → All (λ x. (x == b) ≡ false) xs
none_is b xs h = λ k d l. not-true _ (AllPass-from_list_all (λ x. not (x == b)) xs h k d l)

pub parts_lacks : (b : ℕ) (xs : Bytes) → lacks b xs ≡ true → parts b xs ≡ xs ∷ []
unfolding parts
parts_lacks b xs h = slice_split_none (λ x. x == b) xs (none_is b xs h)

pub parts_next : (b : ℕ) (xs ys : Bytes) → lacks b xs ≡ true → parts b (xs ++ b ∷ ys) ≡ xs ∷ parts b ys
unfolding parts
parts_next b xs ys h = slice_split_at (λ x. x == b) xs b ys (none_is b xs h) (eq-eqb b b refl)

pub parts_glued : (b : ℕ) (w : Bytes) (ws : List Bytes) → list_all (lacks b) (w ∷ ws) ≡ true → parts b (glued b (w ∷ ws)) ≡ w ∷ ws
parts_glued b w [] h = parts_lacks b w (and_parts (lacks b w) true h).0
parts_glued b w (v ∷ ws) h =
    let k = and_parts (lacks b w) (list_all (lacks b) (v ∷ ws)) h in
    parts_next b w (glued b (v ∷ ws)) k.0 ∙ ap (λ l. w ∷ l) (parts_glued b v ws k.1)

onto_clean : (b x : ℕ) (ps : List Bytes) → not (eqb x b) ≡ true → list_all (lacks b) ps ≡ true → list_all (lacks b) (onto_first x ps) ≡ true
onto_clean b x [] n h = and_from _ _ (and_from _ _ n refl) refl
onto_clean b x (p ∷ ps) n h = let k = and_parts (lacks b p) (list_all (lacks b) ps) h in and_from _ _ (and_from _ _ n k.0) k.1

parts_clean_at : (b x : ℕ) (ps : List Bytes) (t : Bool) → eqb x b ≡ t → list_all (lacks b) ps ≡ true → list_all (lacks b) (cond t ([] ∷ ps) (onto_first x ps)) ≡ true
parts_clean_at b x ps true e h = h
parts_clean_at b x ps false e h = onto_clean b x ps (ap not e) h

-- no part has a separator
pub parts_clean : (b : ℕ) (xs : Bytes) → list_all (lacks b) (parts b xs) ≡ true
unfolding parts
parts_clean b [] = refl
parts_clean b (x ∷ xs) = parts_clean_at b x (parts b xs) (eqb x b) refl (parts_clean b xs)

pub lacks_glued : (b c : ℕ) (ws : List Bytes) → eqb c b ≡ false → list_all (lacks b) ws ≡ true → lacks b (glued c ws) ≡ true
lacks_glued b c [] n h = refl
lacks_glued b c (w ∷ []) n h = (and_parts (lacks b w) true h).0
lacks_glued b c (w ∷ v ∷ ws) n h =
    let k = and_parts (lacks b w) (list_all (lacks b) (v ∷ ws)) h in
    list_all-append _ w (c ∷ glued c (v ∷ ws)) ∙ and_from _ _ k.0 (and_from _ _ (ap not n) (lacks_glued b c (v ∷ ws) n k.1))

-- the front of a row and what stands behind it, where the first separator is known
pub front_next : (b : ℕ) (xs ys : Bytes) → lacks b xs ≡ true → (front b (xs ++ b ∷ ys) ≡ xs) × (behind b (xs ++ b ∷ ys) ≡ ys)
front_next b xs ys h =
    let at : position_or_len (λ x. x == b) (xs ++ b ∷ ys) ≡ length xs =
    position_or_len_is (λ x. x == b) (xs ++ b ∷ ys) (length xs) 0 (grind (arith, common_steps)) (λ k l. grind (arith, common_steps, none_is b xs h k 0)) (λ l. grind (arith, common_steps))
    in
    (grind (arith, common_steps), ap (λ n. drop (n + 1) (xs ++ b ∷ ys)) at ∙ drop-append-add xs (b ∷ ys) 1)

pub lacks_not : (b : ℕ) (xs ys : Bytes) → lacks b (xs ++ b ∷ ys) ≡ false
lacks_not b xs ys = list_all-append _ xs (b ∷ ys) ∙ and_right _ _ (and_left _ _ (ap not (eq-eqb b b refl)))

-- bytes that pass a test lack the byte that does not
pub bytes_lack : (test : ℕ → Bool) (b : ℕ) → test b ≡ false → (w : Bytes) → list_all test w ≡ true → lacks b w ≡ true
bytes_lack test b n w h = list_all-from_AllPass (λ x. not (x == b)) w (λ k d l.
    not_from_false _ (ne_eqb _ b (λ e. false≢true (sym n ∙ ap test (sym e) ∙ AllPass-from_list_all test w h k d l))))

-- a separator that is no byte of words stands in none of them
pub words_lack : (b : ℕ) (ws : List Bytes) → wording b ≡ false → list_all is_word ws ≡ true → list_all (lacks b) ws ≡ true
unfolding is_word
words_lack b [] n h = refl
words_lack b (w ∷ ws) n h =
    let k = and_parts (is_word w) (list_all is_word ws) h in
    and_from _ _ (bytes_lack wording b n w (and_parts (sized 16 w && true) (list_all wording w) k.0).1) (words_lack b ws n k.1)

pub splitting_laws : SplittingLaws
unfolding parts
splitting_laws = record { glued_back = join_with_byte-slice_split; cut_back = parts_glued; cut_clean = parts_clean }

pub separator_laws : SeparatorLaws
separator_laws = record { words_lack = words_lack; glued_lacks = lacks_glued }
