-- A world of two regions and three places, and what is open and gathered in it.
use Rattle.std.specs.Prelude.{◌≡◌, ℕ, true, false, T, List, [], ◌∷◌, Some, None, Ok, Err}
use Rattle.inventory.specs.declared.family.Family.TheVariants.{Key, Count, Tier}
use Rattle.inventory.specs.Meaning.{with_codes}
use Rattle.inventory.specs.Families.{of_worlds, code_of}
use Rattle.draw.specs.Tapes.{tape}
use Rattle.model.specs.declared.rule_word.RuleWord.TheVariants.{Free, Need, And, Or}
use Rattle.model.specs.declared.board_refusal.BoardRefusal.TheVariants.{NotGathered, NoCandidate}
use Rattle.model.specs.declared.run_refusal.RunRefusal.TheVariants.{NotWhole}
use Rattle.model.specs.Marks.{work_marks}
use Rattle.model.specs.Worlds.{World, Gate, Place, stocked, opens}
use Rattle.model.specs.Proper.{proper}
use Rattle.model.specs.Placements.{Placement, gathered, sphere}
use Rattle.model.specs.Boards.{Board, new_board, make_refusal, lifted, set_at, left_by}
use Rattle.model.specs.Fills.{filling}
use Rattle.model.specs.Runs.{new_course, started}

-- the first key
abbrev pub lamp : ℕ
lamp = code_of Key 0

-- the first count
abbrev pub coin : ℕ
coin = code_of Count 0

-- the first tier
abbrev pub sword : ℕ
sword = code_of Tier 0

-- a lamp leads from the yard to the cave
abbrev pub to_cave : Gate
to_cave = record { near = 0; far = 1; rule = Need lamp 1 ∷ [] }

-- the well is in the yard, and free
abbrev pub well : Place
well = record { region = 0; rule = Free ∷ [] }

-- the shed is in the yard, for a coin
abbrev pub shed : Place
shed = record { region = 0; rule = Need coin 1 ∷ [] }

-- the vault is in the cave, for a coin or a sword
abbrev pub vault : Place
vault = record { region = 1; rule = Need coin 1 ∷ Need sword 1 ∷ Or ∷ [] }

-- a lamp and two coins to place, no stock, and the lamp and two coins for the goal
abbrev pub world_a : World
world_a = record {
  regions = 2;
  kinds = lamp ∷ coin ∷ sword ∷ [];
  gates = to_cave ∷ [];
  places = well ∷ shed ∷ vault ∷ [];
  pool = lamp ∷ coin ∷ coin ∷ [];
  stock = [];
  goal = Need lamp 1 ∷ Need coin 2 ∷ And ∷ [];
}

-- the lamp in the well and the coins in shed and vault
abbrev pub lamp_first : Placement
lamp_first = Some 0 ∷ Some 1 ∷ Some 2 ∷ []

-- a coin in the well, the lamp in the shed and the other coin in the vault
abbrev pub coin_first : Placement
coin_first = Some 1 ∷ Some 0 ∷ Some 2 ∷ []

-- the value of one item of each of some codes
abbrev pub holding : List ℕ → of_worlds.Value
holding codes = with_codes of_worlds of_worlds.neutral codes

-- a new board of it with the lamp in hand
abbrev pub lamp_lifted : Board
lamp_lifted = left_by (new_board world_a) (lifted world_a (new_board world_a) 0)

-- What is open with nothing, with a coin, and with lamp and coin; what the one placement gathers; the spheres of the other.
-- Where the lamp may be set first; which of the two placements can be started; what two tapes fill a new board with.
pub record WorldExamples : Type 0 where
  pub is_proper : T (proper world_a)
  pub with_nothing : opens of_worlds world_a (holding []) ≡ true ∷ false ∷ false ∷ []
  pub with_coin : opens of_worlds world_a (holding (coin ∷ [])) ≡ true ∷ true ∷ false ∷ []
  pub with_lamp_and_coin : opens of_worlds world_a (holding (lamp ∷ coin ∷ [])) ≡ true ∷ true ∷ true ∷ []
  pub only_well : gathered of_worlds world_a lamp_first (stocked of_worlds world_a) ≡ true ∷ false ∷ false ∷ []
  pub well_sphere : sphere of_worlds world_a coin_first 0 ≡ Some 1
  pub shed_sphere : sphere of_worlds world_a coin_first 1 ≡ Some 2
  pub vault_sphere : sphere of_worlds world_a coin_first 2 ≡ Some 3
  pub makes : make_refusal of_worlds world_a ≡ None
  pub lifts : lamp_lifted.hand ≡ Some 0
  pub vault_refused : set_at of_worlds world_a lamp_lifted 0 2 work_marks ≡ Err NotGathered
  pub shed_accepted : set_at of_worlds world_a lamp_lifted 0 1 work_marks ≡ Ok (record { placement = None ∷ Some 0 ∷ None ∷ []; hand = None })
  pub not_started : started of_worlds world_a lamp_first work_marks ≡ Err NotWhole
  pub starts : started of_worlds world_a coin_first work_marks ≡ Ok (new_course world_a coin_first)
  pub fills : filling of_worlds world_a tape (new_board world_a) (0 ∷ 1 ∷ 0 ∷ 0 ∷ 0 ∷ 0 ∷ []) 1 work_marks ≡ record { answer = Ok 1; board = record { placement = coin_first; hand = None }; state = [] }
  pub fails : filling of_worlds world_a tape (new_board world_a) [] 1 work_marks ≡ record { answer = Err (NoCandidate 2); board = new_board world_a; state = [] }
