-- Dealing one of a list: which one comes out, and what is left.
use Rattle.std.specs.Prelude.{◌≡◌, ℕ, ◌<◌, ◌⊎◌, List, length, slice_index_or}
use Rattle.std.specs.List.{remove}
use Rattle.draw.specs.Source.{Source}

-- nothing is dealt from an empty list, or from one longer than a draw can count, and nothing changes
pub record Undealt {T : Type 0} (s : Source) (x : s.State) (left : List T) (x' : s.State) (left' : List T) : Type 0 where
  pub cannot : (length left ≡ 0) ⊎ (65535 < length left)
  pub state : x' ≡ x
  pub rest : left' ≡ left

-- the index is drawn below the number of what is left, its element comes out, and the others keep their order
pub record Dealt {T : Type 0} (s : Source) (x : s.State) (left : List T) (index : ℕ) (item : T) (x' : s.State) (left' : List T) : Type 0 where
  pub drawn : index ≡ s.drawn x (length left)
  pub state : x' ≡ s.after x (length left)
  pub element : item ≡ slice_index_or left index item
  pub rest : left' ≡ remove left index
