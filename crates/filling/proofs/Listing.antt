-- A list that is extended by what an iterator gives, where there is room for all of it.
use Rattle.std.proofs.Common.{◌≡◌, ℕ, ◌+◌, ◌≤◌, List, [], ◌∷◌, ◌++◌, length, Some, Ok, Err, Option, Result, sym, refl, subst, arith, length-append}
use Rattle.std.specs.Result.{OnOk, OnErr, IsOk}
use Rattle.std.specs.Iterator.{Yields, YieldsThen}
use Rattle.std.proofs.lemmas.Iterator.Adapters.{YieldsAtMost}

one_more : {S A : Type 0} (steps : S → Option A → S → Type 0) (s : S) (xs : List A) (t : S) (x : A) (u : S) → Yields steps s xs t → steps t (Some x) u → Yields steps s (xs ++ x ∷ []) u
one_more steps s [] t x u at step = (u, subst (λ j. steps j (Some x) u) (sym at) step, refl)
one_more steps s (y ∷ xs) t x u go step = (go.0, go.1, one_more steps go.0 xs t x u go.2 step)

-- an item that comes next is one of those that may come
pub fewer_so_far : {S A : Type 0} {steps : S → Option A → S → Type 0} {s : S} {n : ℕ} (it : S) (xs : List A) (x : A) (u : S) → YieldsAtMost steps s n → it ≡ s → YieldsThen steps it xs (Some x) u → length xs + 1 ≤ n
fewer_so_far {steps = steps} {s = s} {n = n} it xs x u few same go =
    let more : length (xs ++ x ∷ []) ≤ n = few.runs (xs ++ x ∷ []) u (subst (λ i. Yields steps i (xs ++ x ∷ []) u) same (one_more steps it xs go.0 x u go.1 go.2)) in
    omega (arith, length-append xs (x ∷ []))

pub ok_unless : {T E : Type 0} {P Q : Type 0} (r : Result T E) → OnErr r P → OnErr r Q → (P → Q → ⊥) → IsOk r
ok_unless (Ok t) p q never = refl
ok_unless (Err e) p q never = absurd (never p q)

pub from_ok : {T E : Type 0} {P : Type 0} (r : Result T E) (t : T) → OnOk r P → r ≡ Ok t → P
from_ok {P = P} r t h e = subst (λ o. OnOk o P) e h
