-- Runs: what each call answers, and the run that it leaves.
use Rattle.std.specs.Prelude.{ℕ, ◌+◌, Bool, true, false, cond, not, ◌&&◌, List, [], ◌∷◌, map, length, Some, None, Ok, Err, Option, Result, ◌==◌, nat_lt, slice_set}
use Rattle.inventory.specs.Meaning.{Meaning}
use Rattle.model.specs.declared.run_refusal.RunRefusal.{RunRefusal}
use Rattle.model.specs.declared.run_refusal.RunRefusal.TheVariants as refusal
use Rattle.model.specs.declared.sight.Sight.{Sight}
use Rattle.model.specs.declared.sight.Sight.TheVariants.{Taken, Open, Closed}
use Rattle.model.specs.Marks.{at, any, tabulate, count, first, work_marks}
use Rattle.model.specs.Worlds.{World, stocked, with_items, opens, finishable}
use Rattle.model.specs.Placements.{Placement, item_at, lying, sphere, whole}

-- a run under way: its world, where the items lie, and the set of places taken
pub record Course : Type 0 where
  pub world : World
  pub placement : Placement
  pub taken : List Bool

-- a run, which is under way once a start was accepted
abbrev pub Run : Type 0
Run = Option Course

-- nothing is taken yet
abbrev pub new_course : World → Placement → Course
new_course w p = record { world = w; placement = p; taken = map (λ q. false) w.places }

-- with one place more that is taken
abbrev pub marked : Course → ℕ → Course
marked c place = record { world = c.world; placement = c.placement; taken = slice_set c.taken place true }

-- whether it is an item outside the pool
abbrev pub outside : World → Option ℕ → Bool
outside w None = false
outside w (Some i) = not (nat_lt i (length w.pool))

-- what the one answers goes on to the next, and a refusal stays
abbrev pub and_then : {A B : Type 0} → Result A RunRefusal → (A → Result B RunRefusal) → Result B RunRefusal
and_then (Ok x) next = next x
and_then (Err e) next = Err e

-- a run that was started
abbrev pub under_way : Run → Result Course RunRefusal
under_way None = Err refusal.NotStarted
under_way (Some c) = Ok c

-- a run that was started, with enough work marks lent
abbrev pub ready : Run → (lent : ℕ) → Result Course RunRefusal
ready run lent = cond (nat_lt lent work_marks) (Err refusal.FewMarks) (under_way run)

-- such a run, in whose world the place is
abbrev pub ready_at : Run → (place lent : ℕ) → Result Course RunRefusal
ready_at run place lent = and_then (ready run lent) (λ c. cond (nat_lt place (length c.world.places)) (Ok c) (Err refusal.NoPlace))

module _ (m : Meaning) where
  -- a run of the world that begins with the placement
  abbrev pub started : World → Placement → (lent : ℕ) → Result Course RunRefusal
  started w p lent =
      cond (nat_lt lent work_marks) (Err refusal.FewMarks)
      (cond (not (length p == length w.places)) (Err refusal.OtherCount)
      (cond (any (outside w) p) (Err refusal.OutsidePool)
      (cond (not (whole m w p)) (Err refusal.NotWhole)
      (Ok (new_course w p)))))

  -- the run after a start: one that is refused leaves the run that was
  abbrev pub after_start : Run → World → Placement → (lent : ℕ) → Run
  after_start run w p lent = elim (started w p lent) [ Ok c ↦ Some c | Err e ↦ run ]

  -- the places open with the stock and the items taken
  unfoldable pub open_now : Course → List Bool
  open_now c = opens m c.world (with_items m c.world (stocked m c.world) (lying c.placement c.taken))

  -- how a place stands
  abbrev pub sight : Course → ℕ → Sight
  sight c place = cond (at c.taken place) Taken (cond (at (open_now c) place) Open Closed)

  -- the lowest place that is open and not taken
  unfoldable pub next_open : Course → Option ℕ
  next_open c = let o = open_now c in first (length c.world.places) 0 (λ k. at o k && not (at c.taken k))

  -- how many finishable places are not taken
  unfoldable pub yet_to_take : Course → ℕ
  yet_to_take c = let f = finishable m c.world in count (tabulate (length c.world.places) (λ k. at f k && not (at c.taken k)))

  -- the item that is taken from a place, or none
  abbrev pub item_taken : Course → ℕ → Result (Option ℕ) RunRefusal
  item_taken c place = elim (sight c place) [ Taken ↦ Err refusal.AlreadyTaken | Open ↦ Ok (item_at c.placement place) | Closed ↦ Err refusal.Closed ]

  -- what look answers
  abbrev pub look_answer : Run → (place lent : ℕ) → Result Sight RunRefusal
  look_answer run place lent = and_then (ready_at run place lent) (λ c. Ok (sight c place))

  -- what take answers
  abbrev pub take_answer : Run → (place lent : ℕ) → Result (Option ℕ) RunRefusal
  take_answer run place lent = and_then (ready_at run place lent) (λ c. item_taken c place)

  -- what hint answers
  abbrev pub hint_answer : Run → (lent : ℕ) → Result (Option ℕ) RunRefusal
  hint_answer run lent = and_then (ready run lent) (λ c. Ok (next_open c))

  -- what ahead answers
  abbrev pub ahead_answer : Run → Result ℕ RunRefusal
  ahead_answer run = and_then (under_way run) (λ c. Ok (yet_to_take c))

  -- what sphere answers
  abbrev pub sphere_answer : Run → (place lent : ℕ) → Result (Option ℕ) RunRefusal
  sphere_answer run place lent = and_then (ready_at run place lent) (λ c. Ok (sphere m c.world c.placement place))

  -- the run after a take
  abbrev pub after_take : Run → (place lent : ℕ) → Run
  after_take None place lent = None
  after_take (Some c) place lent = elim (take_answer (Some c) place lent) [ Ok item ↦ Some (marked c place) | Err e ↦ Some c ]

-- a call on a run
pub data Ask : Type 0 where
  look : (place lent : ℕ) → Ask
  take : (place lent : ℕ) → Ask
  hint : (lent : ℕ) → Ask
  ahead : Ask
  sphere_of : (place lent : ℕ) → Ask

-- what it answers: a refusal, how a place stands, the item taken, the place to take next, how many there are yet to take, or the sphere
pub data Reply : Type 0 where
  refused : RunRefusal → Reply
  stands : Sight → Reply
  got : Option ℕ → Reply
  named : Option ℕ → Reply
  yet : ℕ → Reply
  in_sphere : Option ℕ → Reply

-- the answer, or the refusal
abbrev pub told : {A : Type 0} → (A → Reply) → Result A RunRefusal → Reply
told say (Ok x) = say x
told say (Err e) = refused e

-- how many takes an answer accepts: one or none
abbrev pub accepted : Reply → ℕ
accepted (refused e) = 0
accepted (stands s) = 0
accepted (got item) = 1
accepted (named place) = 0
accepted (yet n) = 0
accepted (in_sphere r) = 0

module _ (m : Meaning) where
  -- what a call answers, and the run that it leaves
  abbrev pub reply : Run → Ask → Reply × Run
  reply run (look place lent) = (told stands (look_answer m run place lent), run)
  reply run (take place lent) = (told got (take_answer m run place lent), after_take m run place lent)
  reply run (hint lent) = (told named (hint_answer m run lent), run)
  reply run ahead = (told yet (ahead_answer m run), run)
  reply run (sphere_of place lent) = (told in_sphere (sphere_answer m run place lent), run)

  -- the run after a list of calls
  abbrev pub run_after : Run → List Ask → Run
  run_after run [] = run
  run_after run (ask ∷ asks) = run_after (reply run ask).1 asks

  -- what a list of calls answers
  abbrev pub replies : Run → List Ask → List Reply
  replies run [] = []
  replies run (ask ∷ asks) = (reply run ask).0 ∷ replies (reply run ask).1 asks

  -- how many takes of a list were accepted
  abbrev pub takes : Run → List Ask → ℕ
  takes run [] = 0
  takes run (ask ∷ asks) = accepted (reply run ask).0 + takes (reply run ask).1 asks
