-- What is promised of every board and of every run, for every lawful inventory.
use Rattle.std.specs.Prelude.{◌≡◌, ℕ, ◌+◌, ◌<◌, ◌≤◌, T, ◌↔◌, List, [], ◌∷◌, ◌++◌, length, replicate, Some, None, Ok, nat_eq}
use Rattle.std.specs.List.{AllByRecursion}
use Rattle.inventory.specs.Meaning.{Meaning}
use Rattle.draw.specs.Source.{Source}
use Rattle.draw.specs.Tapes.{tape}
use Rattle.model.specs.declared.sight.Sight.TheVariants.{Open}
use Rattle.model.specs.Marks.{In, any, count, work_marks}
use Rattle.model.specs.Worlds.{World, finishable}
use Rattle.model.specs.Proper.{proper}
use Rattle.model.specs.Placements.{Placement, item_at, sphere, Once, Placed, Whole}
use Rattle.model.specs.Laws.{Extends}
use Rattle.model.specs.Boards.{Board, is_set, unset, new_board, gathered_with}
use Rattle.model.specs.Fills.{filling}
use Rattle.model.specs.Calls.{Call, after, by_answers}
use Rattle.model.specs.Runs.{Course, Run, Ask, Reply, new_course, started, open_now, yet_to_take, look_answer, hint_answer, accepted, reply, run_after, takes}
use Rattle.model.specs.Runs.Ask.{look, take, hint, ahead, sphere_of}

-- a placement of the world's items, each at a place gathered from the stock joined with the items that are not set
pub record Supported (m : Meaning) (w : World) (p : Placement) : Type 0 where
  pub placed : Placed w p
  pub gathers : (k i : ℕ) → item_at p k ≡ Some i → In (gathered_with m w p (unset w p)) k

-- a board with a supported placement, and in hand at most an item of the pool that is not set
pub record Sound (m : Meaning) (w : World) (b : Board) : Type 0 where
  pub supported : Supported m w b.placement
  pub in_hand : (i : ℕ) → b.hand ≡ Some i → (i < length w.pool) × (T (is_set b.placement i) → ⊥)

-- Whatever is called on a new board leaves a sound one.
abbrev pub BoardsStaySupported : Meaning → Type 0
BoardsStaySupported m = (w : World) (calls : List Call) → Sound m w (after m w (new_board w) calls)

-- numbers that make a tape: at most 512, of 16 bits each
abbrev pub Tape : List ℕ → Type 0
Tape numbers = (length numbers ≤ 512) × AllByRecursion (λ n. n < 65536) numbers

-- a fill of one attempt is accepted with these numbers, and leaves the placement
pub record FilledFrom (m : Meaning) (w : World) (b : Board) (p : Placement) (numbers : List ℕ) : Type 0 where
  pub drawn : Tape numbers
  pub accepted : (filling m w tape b numbers 1 work_marks).answer ≡ Ok 1
  pub leaves : (filling m w tape b numbers 1 work_marks).board.placement ≡ p

-- On a new board the placements that some tape leads to are the whole ones; on any board with an empty hand, those of them that keep what is set.
pub record FillsReachEachWhole (m : Meaning) : Type 0 where
  pub on_new : (w : World) → T (proper w) → (p : Placement) → ((numbers : List ℕ) × FilledFrom m w (new_board w) p numbers) ↔ Whole m w p
  pub going_on : (w : World) → T (proper w) → (calls : List Call)
      → (let b = after m w (new_board w) calls in b.hand ≡ None → (p : Placement) → ((numbers : List ℕ) × FilledFrom m w b p numbers) ↔ (Whole m w p × Extends b.placement p))

-- After any calls, from a source in any state, an accepted fill leaves a whole placement that keeps what was set.
abbrev pub FillsAreWhole : Meaning → Source → Type 0
FillsAreWhole m s = (w : World) (calls : List Call) (x : s.State) (attempts lent nth : ℕ)
    → (let b = after m w (new_board w) calls in let f = filling m w s b x attempts lent in f.answer ≡ Ok nth → Whole m w f.board.placement × Extends b.placement f.board.placement)

-- the state after some sizes were asked, the newest first
abbrev pub state_after : (s : Source) → s.State → List ℕ → s.State
state_after s x [] = x
state_after s x (n ∷ asked) = s.after (state_after s x asked) n

-- every fill from the source in the state does as one from the answers, and asks for the same sizes
pub record KnownBy (m : Meaning) (s : Source) (x : s.State) (answers : List ℕ → ℕ) : Type 0 where
  pub same_answer : (w : World) (b : Board) (attempts lent : ℕ) → (filling m w s b x attempts lent).answer ≡ (filling m w (by_answers answers) b [] attempts lent).answer
  pub same_board : (w : World) (b : Board) (attempts lent : ℕ) → (filling m w s b x attempts lent).board ≡ (filling m w (by_answers answers) b [] attempts lent).board
  pub same_state : (w : World) (b : Board) (attempts lent : ℕ) → (filling m w s b x attempts lent).state ≡ state_after s x (filling m w (by_answers answers) b [] attempts lent).state

-- In each of its states a source is known by some answers, so lists of calls with such fills speak of every source.
abbrev pub SourcesAreTheirAnswers : Meaning → Source → Type 0
SourcesAreTheirAnswers m s = (x : s.State) → (answers : List ℕ → ℕ) × KnownBy m s x answers

-- What holds of a run that was started with the placement in the world, after n accepted takes:
pub record NeverStalls (m : Meaning) (w : World) (p : Placement) (c : Course) (n : ℕ) : Type 0 where
  -- it is a run with that placement in that world
  pub same_world : c.world ≡ w
  pub same_placement : c.placement ≡ p
  -- the places ahead and the takes are the finishable places together
  pub counts_down : yet_to_take m c + n ≡ count (finishable m w)
  -- while something is ahead, hint names a place that look calls open
  pub hints : (lent : ℕ) → work_marks ≤ lent → 0 < yet_to_take m c
      → (k : ℕ) × (hint_answer m (Some c) lent ≡ Ok (Some k)) × (look_answer m (Some c) k lent ≡ Ok Open)
  -- what is open stays open, whatever is called
  pub stays_open : (k : ℕ) (asks : List Ask) (c' : Course) → run_after m (Some c) asks ≡ Some c' → In (open_now m c) k → In (open_now m c') k
  -- a place is open once all places of lower spheres are taken
  pub opens_in_turn : (k r : ℕ) → sphere m w p k ≡ Some r → ((j q : ℕ) → sphere m w p j ≡ Some q → q < r → In c.taken j) → In (open_now m c) k
  -- no place opens before as many takes as there are spheres below its own
  pub opens_no_sooner : (k r : ℕ) → sphere m w p k ≡ Some r → In (open_now m c) k → r ≤ n + 1

-- Whatever is called on a run, from its accepted start on, it never stalls.
abbrev pub RunsNeverStall : Meaning → Type 0
RunsNeverStall m = (w : World) (p : Placement) (lent : ℕ) (c : Course) → Once p → started m w p lent ≡ Ok c → (asks : List Ask)
    → (c' : Course) × (run_after m (Some c) asks ≡ Some c') × NeverStalls m w p c' (takes m (Some c) asks)

-- the place of an accepted take
abbrev pub taken_by : Ask → Reply → List ℕ
taken_by (look place lent) r = []
taken_by (take place lent) r = replicate (accepted r) place
taken_by (hint lent) r = []
taken_by ahead r = []
taken_by (sphere_of place lent) r = []

-- the places of the accepted takes among some calls, in their order
abbrev pub places_taken : (m : Meaning) → Run → List Ask → List ℕ
places_taken m run [] = []
places_taken m run (ask ∷ asks) = taken_by ask (reply m run ask).0 ++ places_taken m (reply m run ask).1 asks

-- From the accepted start of a run on, just the places of accepted takes are taken.
abbrev pub TakesAreKept : Meaning → Type 0
TakesAreKept m = (w : World) (p : Placement) (lent : ℕ) (c : Course) → Once p → started m w p lent ≡ Ok c → (asks : List Ask)
    → (c' : Course) → run_after m (Some c) asks ≡ Some c' → (k : ℕ) → In c'.taken k ↔ T (any (nat_eq k) (places_taken m (Some c) asks))

-- With enough marks, start accepts exactly the whole placements; and with one of these just the finishable places have a sphere.
pub record StartsAreWhole (m : Meaning) : Type 0 where
  pub accepts : (w : World) (p : Placement) (lent : ℕ) → Once p → work_marks ≤ lent → (started m w p lent ≡ Ok (new_course w p)) ↔ Whole m w p
  pub spheres : (w : World) (p : Placement) → Whole m w p → (k : ℕ) → In (finishable m w) k ↔ ((r : ℕ) × (sphere m w p k ≡ Some r))
