-- What waits on a stack, and what a push and a pop do to it.
use Rattle.std.specs.Prelude.{◌≡◌, ℕ, ◌<◌, List, [], ◌∷◌, reverse, length, take}
use Rattle.scratch.specs.declared.stack.Stack.{Stack}

-- the values that wait, the newest first
unfoldable pub held : {T : Type 0} → Stack T → List T
held s = reverse (take s.len s.cells.now)

-- how many values can wait
unfoldable pub room : {T : Type 0} → Stack T → ℕ
room s = length s.cells.now

-- there was room, and the value lies on top
abbrev pub Laid : {T : Type 0} → T → Stack T → Stack T → Type 0
Laid value before after = (held after ≡ value ∷ held before) × (length (held before) < room before)

-- there was no room, the value comes back, and the same values wait
abbrev pub Full : {T : Type 0} → T → Stack T → Stack T → T → Type 0
Full value before after back = (back ≡ value) × (held after ≡ held before) × (length (held before) ≡ room before)

-- the newest value is handed out, and its cell is free again
abbrev pub Taken : {T : Type 0} → Stack T → Stack T → T → Type 0
Taken before after value = (held before ≡ value ∷ held after) × (length (held after) < room after)

-- no value waited, and none does
abbrev pub Empty : {T : Type 0} → Stack T → Stack T → Type 0
Empty before after = (held before ≡ []) × (held after ≡ [])
