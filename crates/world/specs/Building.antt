-- What the calls that make a world answer, and what they leave.
use Rattle.std.specs.Prelude.{ℕ, ◌+◌, Bool, true, cond, not, ◌&&◌, List, [], ◌∷◌, ◌++◌, length, Some, None, Ok, Err, Option, Result, ◌==◌, nat_le, nat_lt}
use Rattle.inventory.specs.declared.family.Family.{Family}
use Rattle.inventory.specs.Families.{code_of}
use Rattle.model.specs.declared.rule_word.RuleWord.{RuleWord}
use Rattle.model.specs.Marks.{every}
use Rattle.model.specs.Rules.{formed}
use Rattle.model.specs.Proper.{names_kinds, of_kinds, words_in, kinds_of}
use Rattle.model.specs.Worlds.{World, Gate, Place}
use Rattle.world.specs.declared.refusal.BuildRefusal.{BuildRefusal}
use Rattle.world.specs.declared.refusal.BuildRefusal.TheVariants.{NoRegion, IllFormed, NoKind, Full, GoalSet}

-- nothing made yet: no region, no goal
abbrev pub nothing : World
nothing = record { regions = 0; kinds = []; gates = []; places = []; pool = []; stock = []; goal = [] }

-- whether a draft has what a world needs: a region, and a goal
abbrev pub complete : World → Bool
complete w = not (w.regions == 0) && not (length w.goal == 0)

-- a world with one more of something
abbrev pub with_region : World → World
with_region w = record { regions = w.regions + 1; kinds = w.kinds; gates = w.gates; places = w.places; pool = w.pool; stock = w.stock; goal = w.goal }

abbrev pub with_kind : World → ℕ → World
with_kind w code = record { regions = w.regions; kinds = w.kinds ++ code ∷ []; gates = w.gates; places = w.places; pool = w.pool; stock = w.stock; goal = w.goal }

abbrev pub with_gate : World → Gate → World
with_gate w gate = record { regions = w.regions; kinds = w.kinds; gates = w.gates ++ gate ∷ []; places = w.places; pool = w.pool; stock = w.stock; goal = w.goal }

abbrev pub with_place : World → Place → World
with_place w place = record { regions = w.regions; kinds = w.kinds; gates = w.gates; places = w.places ++ place ∷ []; pool = w.pool; stock = w.stock; goal = w.goal }

abbrev pub with_item : World → ℕ → World
with_item w code = record { regions = w.regions; kinds = w.kinds; gates = w.gates; places = w.places; pool = w.pool ++ code ∷ []; stock = w.stock; goal = w.goal }

abbrev pub with_stock : World → ℕ → World
with_stock w code = record { regions = w.regions; kinds = w.kinds; gates = w.gates; places = w.places; pool = w.pool; stock = w.stock ++ code ∷ []; goal = w.goal }

abbrev pub with_goal : World → List RuleWord → World
with_goal w rule = record { regions = w.regions; kinds = w.kinds; gates = w.gates; places = w.places; pool = w.pool; stock = w.stock; goal = rule }

-- whether there is room for one kind more of a family, and the code that it gets
abbrev pub kind_fits : World → Family → Bool
kind_fits w family = nat_lt (length w.kinds) 64 && nat_lt (kinds_of w family) 32

abbrev pub new_code : World → Family → ℕ
new_code w family = code_of family (kinds_of w family)

abbrev pub kind_refusal : World → Family → Option BuildRefusal
kind_refusal w family = cond (kind_fits w family) None (Some Full)

abbrev pub region_refusal : World → Option BuildRefusal
region_refusal w = cond (nat_lt w.regions 64) None (Some Full)

-- whether a rule finds room: in the table of its row, for itself, and behind the words there are already
abbrev pub rule_fits : Bool → ℕ → List RuleWord → Bool
rule_fits room words rule = room && (nat_le (length rule) 32 && nat_le (words + length rule) 4096)

-- why a rule is not taken in: ill formed, then an unknown kind, then no room
abbrev pub rule_refusal : List ℕ → ℕ → Bool → List RuleWord → Option BuildRefusal
rule_refusal kinds words room rule =
    cond (formed rule)
    (cond (every (names_kinds kinds) rule)
    (cond (rule_fits room words rule) None (Some Full))
    (Some NoKind))
    (Some IllFormed)

abbrev pub gate_refusal : World → ℕ → ℕ → List RuleWord → Option BuildRefusal
gate_refusal w near far rule =
    cond (nat_lt near w.regions && nat_lt far w.regions) (rule_refusal w.kinds (words_in w) (nat_lt (length w.gates) 256) rule)
    (Some NoRegion)

abbrev pub place_refusal : World → ℕ → List RuleWord → Option BuildRefusal
place_refusal w region rule =
    cond (nat_lt region w.regions) (rule_refusal w.kinds (words_in w) (nat_lt (length w.places) 256) rule)
    (Some NoRegion)

-- a goal needs a region, and is looked at for that last
abbrev pub region_due : World → Option BuildRefusal → Option BuildRefusal
region_due w (Some why) = Some why
region_due w None = cond (w.regions == 0) (Some NoRegion) None

abbrev pub goal_refusal : World → List RuleWord → Option BuildRefusal
goal_refusal w rule = cond (length w.goal == 0) (region_due w (rule_refusal w.kinds (words_in w) true rule)) (Some GoalSet)

-- why an item of a code is not taken into a list of items that has room or not
abbrev pub item_refusal : List ℕ → Bool → ℕ → Option BuildRefusal
item_refusal kinds room code =
    cond (of_kinds kinds code) (cond room None (Some Full))
    (Some NoKind)

abbrev pub pool_refusal : World → ℕ → Option BuildRefusal
pool_refusal w code = item_refusal w.kinds (nat_lt (length w.pool) 256) code

abbrev pub stock_refusal : World → ℕ → Option BuildRefusal
stock_refusal w code = item_refusal w.kinds (nat_lt (length w.stock) 32) code

-- the answer of a call that has nothing else to say
abbrev pub told : Option BuildRefusal → Result (Unit {0}) BuildRefusal
told None = Ok tt
told (Some why) = Err why

-- the answer of a call that gives a number
abbrev pub numbered : Option BuildRefusal → ℕ → Result ℕ BuildRefusal
numbered None n = Ok n
numbered (Some why) n = Err why

-- what is left: the changed world where the call is not refused
abbrev pub left : Option BuildRefusal → World → World → World
left None changed w = changed
left (Some why) changed w = w
