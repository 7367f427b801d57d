-- The first of several things that may be wrong.
use Rattle.std.specs.Prelude.{ℕ, zero, suc, Bool, true, false, cond, ◌||◌, List, [], Some, None, Ok, Err, Option, Result}

-- the first, or else the second
abbrev pub or_else : {F : Type 0} → Option F → Option F → Option F
or_else (Some f) o = Some f
or_else None o = o

abbrev pub nothing_wrong : {F : Type 0} → Option F → Bool
nothing_wrong None = true
nothing_wrong (Some f) = false

-- what the lowest index below n at which something is wrong has wrong
abbrev pub lowest : {F : Type 0} → (ℕ → Option F) → ℕ → Option F
lowest f zero = None
lowest f (suc n) = or_else (lowest f n) (f n)

-- wrong unless the test holds
abbrev pub unless : {F : Type 0} → Bool → F → Option F
unless b f = cond b None (Some f)

-- the test holds at an index below n
abbrev pub some_below : (ℕ → Bool) → ℕ → Bool
some_below q zero = false
some_below q (suc n) = some_below q n || q n

-- what a call refused
abbrev pub fault_of : {A F : Type 0} → Result A F → Option F
fault_of (Ok a) = None
fault_of (Err f) = Some f

-- the numbers of what is wrong
abbrev pub fault_told : {F : Type 0} → (F → List ℕ) → Option F → List ℕ
fault_told told None = []
fault_told told (Some f) = told f
