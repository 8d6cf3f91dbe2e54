-- What the calls of a reader of chain files do.
use Rattle.std.specs.Prelude.{◌≡◌, ◌≤◌, ◌+◌, ◌-◌, ℕ, length, true, false, Result, Ok, Err}
use Rattle.outside.specs.declared.lexer.Token.{Token}
use Rattle.outside.specs.declared.lexer.Token.TheVariants.{Number}
use Rattle.chain_files.specs.Known.{Known}
use Rattle.chain_files.specs.Steps.{Step, goes, stops, is_whole}
use Rattle.chain_files.specs.declared.due.Due.{Due}
use Rattle.chain_files.specs.declared.fault.ChainCause.{ChainCause}
use Rattle.chain_files.specs.declared.fault.ChainCause.TheVariants.{Unclosed}
use Rattle.chain_files.specs.declared.fault.ChainFault.{ChainFault}
use Rattle.chain_files.specs.declared.fault.ChainFault.TheVariants as faults
use Rattle.chain_files.specs.Numbers.{most_generators, most_terms}
use Rattle.chain_files.specs.declared.gathered.Refusal.{Refusal}
use Rattle.chain_files.specs.declared.gathered.Refusal.TheVariants.{At, NoMemory}

-- the numbers of a file so far fit each other
pub record IsKnown (s : Known) : Type 0 where
  pub degrees : length s.content.degrees ≡ length s.content.boundaries
  pub here : s.here.first + s.here.count ≡ length s.content.boundaries
  pub below : s.below.first + s.below.count ≤ s.here.first
  pub few : length s.content.boundaries ≤ most_generators
  pub terms : s.terms ≤ most_terms
  pub last : s.last ≤ length s.content.boundaries - 1

-- a number makes what is known, or is refused at its place
abbrev pub Makes : Result Known ChainCause → ℕ → Known → Result (Unit {0}) Refusal → Type 0
Makes made place now (Ok _) = made ≡ Ok now
Makes made place now (Err (At at cause)) = (at ≡ place) × (made ≡ Err cause)
Makes made place now (Err NoMemory) = Unit {0}

-- a token leads on, or the text is refused
abbrev pub Turns : Step → Known → Result Due Refusal → Type 0
Turns step now (Ok due) = step ≡ goes now due
Turns step now (Err (At at cause)) = step ≡ stops at cause
Turns step now (Err NoMemory) = Unit {0}

abbrev pub Takes : Step → Known → Due → Result (Unit {0}) Refusal → Type 0
Takes step now due (Ok _) = step ≡ goes now due
Takes step now due (Err (At at cause)) = step ≡ stops at cause
Takes step now due (Err NoMemory) = Unit {0}

-- a place and a cause
abbrev pub WantsNoMemory : Refusal → Type 0
WantsNoMemory (At at cause) = Unit {0}
WantsNoMemory NoMemory = ⊥

-- numbers alone want memory
abbrev pub MayCome : Token → Refusal → Type 0
MayCome (Number z) r = Unit {0}
MayCome t r = WantsNoMemory r

-- the end of the text: what was read, or the text is not whole
abbrev pub Ends : Known → Due → ℕ → Result Known ChainFault → Type 0
Ends s due place (Ok known) = (is_whole s due ≡ true) × (known ≡ s)
Ends s due place (Err (faults.At at cause)) = (is_whole s due ≡ false) × (at ≡ place)
    × (cause ≡ Unclosed)
Ends s due place (Err fault) = ⊥

abbrev pub fault_of : Refusal → ChainFault
fault_of (At at cause) = faults.At at cause
fault_of NoMemory = faults.NoMemory
