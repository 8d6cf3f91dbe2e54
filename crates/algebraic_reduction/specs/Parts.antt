-- The words of the calls on the fields of a log, and of the maps below its calls.
use Rattle.std.specs.Prelude.{◌≡◌, ◌≢◌, ℕ, ◌+◌, ◌-◌, ◌*◌, ◌%◌, ◌<◌, ◌≤◌, ◌⊎◌, Bool, true, List, length, take, Option, Some, None, if◌then◌else◌, ◌==◌}
use Rattle.field_mod.specs.Modular.{Same, NonZero, minus}
use Rattle.chains.specs.Terms.{coefficient, product}
use Rattle.chains.specs.ChainComplex.{incidence}
use Rattle.algebraic_reduction.specs.declared.parts.Parts.{Parts}
use Rattle.algebraic_reduction.specs.Reduction.{IsUnpaired}
use Rattle.algebraic_reduction.specs.LogWords.{Reduced, left_at}
use Rattle.algebraic_reduction.specs.Kept.{steps_of, nth, a_at, b_at, inverse_at, row_at}
use Rattle.algebraic_reduction.specs.Maps.{HasDescended, weight_at, IsSettled, rows}
use Rattle.algebraic_reduction.specs.State.{IsState, GoesOn, AreNames, place_at}

-- the number x at the generator g, and 0 elsewhere
abbrev pub only : ℕ → ℕ → ℕ → ℕ
only g x h = if g == h then x else 0

-- a multiple of a chain
abbrev pub multiple : ℕ → List (ℕ × ℕ) → ℕ → ℕ
multiple scale c g = scale * coefficient c g

-- ---- the fields of a log

-- the fields are those of a log of reduced pairs
abbrev pub Holds : (p : ℕ) → Parts p → Type 0
Holds p q = IsState p q.complex q.places.items q.steps.items

-- the later fields have the same complex and further steps
abbrev pub Goes : (p : ℕ) → Parts p → Parts p → Type 0
Goes p old new = GoesOn old.complex new.complex old.steps.items new.steps.items

-- the generator is one of the complex, and in no step
abbrev pub IsAlive : (p : ℕ) → Parts p → ℕ → Type 0
IsAlive p q g = (g < length q.complex.boundaries) × IsUnpaired (steps_of q.steps.items) g

-- the complex and its steps
abbrev pub seen : (p : ℕ) → Parts p → Reduced
seen p q = record { complex = q.complex; steps = steps_of q.steps.items }

-- nothing is left of the boundary of b
abbrev pub IsDone : (p : ℕ) → Parts p → ℕ → Type 0
IsDone p q b = (g : ℕ) → Same p (left_at p (seen p q) b g) 0

-- the lists are an index of the rows
abbrev pub AreNamesIn : (p : ℕ) → Parts p → List (List ℕ) → Type 0
AreNamesIn p q lists = AreNames p (length q.complex.boundaries) q.steps.items lists

-- ---- descents

-- g is the a of step i, from `from` on and before bound
abbrev pub IsStepOf : (p : ℕ) → Parts p → ℕ → ℕ → ℕ → ℕ → Type 0
IsStepOf p q g from bound i = (from ≤ i) × (i < bound) × (a_at q.steps.items i ≡ g)

-- the step from `from` on and before bound whose a is g is found
abbrev pub FindsStep : (p : ℕ) → Parts p → ℕ → ℕ → ℕ → Option ℕ → Type 0
FindsStep p q g from bound found =
    (i : ℕ) → from ≤ i → i < bound → i < length q.steps.items → a_at q.steps.items i ≡ g
    → found ≡ Some i

-- x is added to what is left: the coefficients of generators in no step
abbrev pub AddsLeft : (p : ℕ) → Parts p → (ℕ → ℕ) → List (ℕ × ℕ) → List (ℕ × ℕ) → Type 0
AddsLeft p q x old new =
    (g : ℕ) → place_at q.places.items g ≡ None → coefficient new g ≡ coefficient old g + x g

-- the same, modulo p
abbrev pub AddsLeftModulo : (p : ℕ) → Parts p → (ℕ → ℕ) → List (ℕ × ℕ) → List (ℕ × ℕ) → Type 0
AddsLeftModulo p q x old new =
    (g : ℕ) → place_at q.places.items g ≡ None
    → Same p (coefficient new g) (coefficient old g + x g)

-- the coefficients of generators in a step stay
abbrev pub TakenStay : (p : ℕ) → Parts p → List (ℕ × ℕ) → List (ℕ × ℕ) → Type 0
TakenStay p q old new =
    (g i : ℕ) → place_at q.places.items g ≡ Some i → coefficient new g ≡ coefficient old g

-- what x has at the a of the steps from `from` on and before bound is added to what is pending
abbrev pub AddsPending : (p : ℕ) → Parts p → (ℕ → ℕ) → ℕ → ℕ → List (ℕ × ℕ) → List (ℕ × ℕ) → Type 0
AddsPending p q x from bound old new =
    (j : ℕ) → from ≤ j → j < bound
    → Same p (coefficient new j) (coefficient old j + x (a_at q.steps.items j))

-- nothing is pending anew but at those steps
abbrev pub ArePendingIn : ℕ → ℕ → List (ℕ × ℕ) → List (ℕ × ℕ) → Type 0
ArePendingIn from bound old new =
    (j : ℕ) → coefficient new j ≢ 0 → (coefficient old j ≢ 0) ⊎ ((from ≤ j) × (j < bound))

-- the chain has come down the steps before bound
abbrev pub DescendsTo : (p : ℕ) → Parts p → ℕ → List (ℕ × ℕ) → List (ℕ × ℕ) → List (ℕ × ℕ) → Type 0
DescendsTo p q bound start left raised =
    HasDescended p (incidence q.complex.boundaries) q.places.items (take bound q.steps.items)
    (coefficient start) left raised

-- the coefficients at generators in no step are those of the chain
abbrev pub AreLeftTerms : ℕ → List (Option ℕ) → List (ℕ × ℕ) → List (ℕ × ℕ) → Type 0
AreLeftTerms p places chain c =
    (g : ℕ) → place_at places g ≡ None → coefficient c g ≡ coefficient chain g % p

-- and at all others nothing stands
abbrev pub IsOffSteps : List (Option ℕ) → List (ℕ × ℕ) → Type 0
IsOffSteps places c = (g i : ℕ) → place_at places g ≡ Some i → coefficient c g ≡ 0

-- ---- the way back, where each of count steps stands by how many come after it

-- x is added to what is pending at the steps before bound
abbrev pub AddsBack : ℕ → (ℕ → ℕ) → ℕ → ℕ → List (ℕ × ℕ) → List (ℕ × ℕ) → Type 0
AddsBack p x bound count old new =
    (j : ℕ) → j < bound
    → Same p (coefficient new (count - 1 - j)) (coefficient old (count - 1 - j) + x j)

-- nothing is pending anew but at steps that have a number
abbrev pub ArePendingAt : List (ℕ × ℕ) → ℕ → List (ℕ × ℕ) → List (ℕ × ℕ) → Type 0
ArePendingAt numbers count old new =
    (k : ℕ) → coefficient new k ≢ 0
    → (coefficient old k ≢ 0)
    ⊎ ((j : ℕ) × (j < count) × (k ≡ count - 1 - j) × (coefficient numbers j ≢ 0))

-- nothing is pending anew but at steps before the one at place
abbrev pub ArePendingBefore : ℕ → ℕ → List (ℕ × ℕ) → List (ℕ × ℕ) → Type 0
ArePendingBefore place count old new =
    (k : ℕ) → coefficient new k ≢ 0
    → (coefficient old k ≢ 0) ⊎ ((count ≤ k + place) × (k < count))

-- the number times what the homotopies of the steps give of the boundary of b of the step at place,
-- with the other sign
abbrev pub taken_back : (p : ℕ) → Parts p → ℕ → ℕ → ℕ → ℕ
taken_back p q place number j =
    minus p (number * weight_at p (incidence q.complex.boundaries) q.steps.items
    (incidence q.complex.boundaries (b_at q.steps.items place)) j)

-- ---- equations that are due

-- what was due still is; a test tells the steps that are due
abbrev pub StayDue : (ℕ → Bool) → (ℕ → Bool) → Type 0
StayDue old new = (j : ℕ) → old j ≡ true → new j ≡ true

-- only steps before bound come to be due
abbrev pub ComeDueBelow : ℕ → (ℕ → Bool) → (ℕ → Bool) → Type 0
ComeDueBelow bound old new = (j : ℕ) → new j ≡ true → (old j ≡ true) ⊎ (j < bound)

-- the steps before bound in whose row g stands come to be due
abbrev pub NamingComeDue : (p : ℕ) → Parts p → ℕ → ℕ → (ℕ → Bool) → Type 0
NamingComeDue p q g bound new =
    (j : ℕ) → j < bound → g < length q.complex.boundaries
    → NonZero p (row_at q.steps.items j g) → new j ≡ true

-- the same, unless the number x at g is 0
abbrev pub NamingComeDueBy : (p : ℕ) → Parts p → ℕ → ℕ → ℕ → (ℕ → Bool) → Type 0
NamingComeDueBy p q x g bound new =
    (j : ℕ) → j < bound → g < length q.complex.boundaries → x ≢ 0
    → NonZero p (row_at q.steps.items j g) → new j ≡ true

-- the same, for all generators of a chain
abbrev pub AllNamingComeDue : (p : ℕ) → Parts p → List (ℕ × ℕ) → ℕ → (ℕ → Bool) → Type 0
AllNamingComeDue p q chain bound new =
    (j g : ℕ) → j < bound → g < length q.complex.boundaries → coefficient chain g ≢ 0
    → NonZero p (row_at q.steps.items j g) → new j ≡ true

-- the value at the a of the step at place comes to be what its equation asks for
abbrev pub IsSettledAt : (p : ℕ) → Parts p → ℕ → List (ℕ × ℕ) → List (ℕ × ℕ) → Type 0
IsSettledAt p q place old new =
    (g : ℕ) → Same p (coefficient new g) (coefficient old g + (if g == a_at q.steps.items place
    then minus p (inverse_at q.steps.items place * product (nth q.steps.items place).row old)
    else 0))

-- the steps before the one at place in whose row its a stands come to be due, unless its value is 0
abbrev pub NamingPivotComeDue : (p : ℕ) → Parts p → ℕ → List (ℕ × ℕ) → (ℕ → Bool) → Type 0
NamingPivotComeDue p q place values new =
    NamingComeDueBy p q (coefficient values (a_at q.steps.items place)) (a_at q.steps.items place)
    place new

-- the chain has nothing at the a of the steps where their rows have anything
abbrev pub IsOffPivots : (p : ℕ) → Parts p → List (ℕ × ℕ) → Type 0
IsOffPivots p q c =
    (i : ℕ) → i < length q.steps.items
    → Same p (row_at q.steps.items i (a_at q.steps.items i) * coefficient c (a_at q.steps.items i))
    0

-- the values are the chain, but for those at the a of the steps
abbrev pub StaysOffPivots : (p : ℕ) → Parts p → List (ℕ × ℕ) → List (ℕ × ℕ) → Type 0
StaysOffPivots p q start values =
    (g : ℕ) → ((i : ℕ) → i < length q.steps.items → g ≢ a_at q.steps.items i)
    → Same p (coefficient values g) (coefficient start g)

-- the values keep the equations of all steps, where the chain has the values at the start
abbrev pub AreSettled : (p : ℕ) → Parts p → List (ℕ × ℕ) → List (ℕ × ℕ) → Type 0
AreSettled p q start values =
    (i : ℕ) → i < length q.steps.items
    → IsSettled p (length q.complex.boundaries) (rows q.steps.items) (coefficient start)
    (coefficient values) i
