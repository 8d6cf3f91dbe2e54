-- Files and a sink in memory: what they hold, and which of their calls fail.
use Rattle.std.specs.Prelude.{◌≡◌, ◌⊎◌, ◌==◌, Bool, true, false, ℕ, ◌+◌, List, min, length, string_bytes, Result, MatchResult}
use Rattle.std.specs.List.{list_any}
use Rattle.outside.specs.Causes.{Rose, more, counted}
use Rattle.outside.specs.Disk.{Disk, held, Tears}
use Rattle.outside.specs.declared.memory.files.MemFiles.{MemFiles}
use Rattle.outside.specs.declared.memory.sink.MemSink.{MemSink}

-- A call is to fail where its number, counted from 1, is among those that are to fail.
abbrev pub is_among : List ℕ → ℕ → Bool
is_among failing number = list_any (λ n. n == number) failing

-- What files in memory hold, and their counts of failures, of appends that failed for a refused
-- growth, and of bytes given.
abbrev pub disk_of : MemFiles → Disk
disk_of m = held string_bytes (λ b. b.items) m.files.items

abbrev pub faults_of : MemFiles → ℕ
faults_of m = m.faults

abbrev pub refused_of : MemFiles → ℕ
refused_of m = m.refused

abbrev pub given_of : MemFiles → ℕ
given_of m = m.given

-- The next call of the files is one that is to fail.
abbrev pub next_fails : MemFiles → Bool
next_fails m = is_among m.failing.items (m.calls + 1)

-- Files before their first call: the numbers of the calls that are to fail, and how many bytes of
-- its piece a failed append keeps.
pub record AreNew (numbers : List ℕ) (kept : ℕ) (m : MemFiles) : Type 0 where
  pub failing : m.failing.items ≡ numbers
  pub keeps : m.keeps ≡ kept
  pub calls : m.calls ≡ 0
  pub faults : m.faults ≡ 0
  pub refused : m.refused ≡ 0
  pub given : m.given ≡ 0

-- One call more was made, and counted where it failed; the numbers that are to fail stay, and what
-- a failed append keeps.
pub record CountsCall {T E : Type 0} (before : MemFiles) (result : Result T E) (now : MemFiles) :
    Type 0 where
  pub calls : now.calls ≡ more before.calls 1
  pub faults : now.faults ≡ counted before.faults result
  pub failing : now.failing.items ≡ before.failing.items
  pub keeps : now.keeps ≡ before.keeps

-- An append fails exactly where its number is to fail, and then keeps so many bytes of its piece;
-- or where it raises the number of refused growths, and then all files stay.
abbrev pub FailsToAppend : {T E : Type 0} → MemFiles → Result T E → MemFiles → Bool → List ℕ
    → List ℕ → Type 0
FailsToAppend before result now first name piece = MatchResult result
    (λ _. (next_fails before ≡ false) × (now.refused ≡ before.refused))
    (λ _. ((next_fails before ≡ true) × (now.refused ≡ before.refused)
    × Tears before.keeps first name piece (disk_of before) (disk_of now))
    ⊎ (Rose before.refused now.refused × (disk_of now ≡ disk_of before)))

-- What was written to a sink in memory, and its counts.
abbrev pub written_to : MemSink → List ℕ
written_to s = s.bytes.items

abbrev pub faults_at : MemSink → ℕ
faults_at s = s.faults

abbrev pub refused_at : MemSink → ℕ
refused_at s = s.refused

-- A sink before its first write: the numbers of the writes that are to fail, and the most bytes
-- that it takes per call.
pub record IsNew (numbers : List ℕ) (greatest : ℕ) (s : MemSink) : Type 0 where
  pub failing : s.failing.items ≡ numbers
  pub most : s.most ≡ greatest
  pub calls : s.calls ≡ 0
  pub faults : s.faults ≡ 0
  pub refused : s.refused ≡ 0

-- One write more was made, and counted where it failed; the numbers that are to fail stay, and the
-- most that is taken.
pub record CountsWrite {T E : Type 0} (before : MemSink) (result : Result T E) (now : MemSink) :
    Type 0 where
  pub calls : now.calls ≡ more before.calls 1
  pub faults : now.faults ≡ counted before.faults result
  pub failing : now.failing.items ≡ before.failing.items
  pub most : now.most ≡ before.most

-- A write takes as much as it may. It fails exactly where its number is to fail, or where it raises
-- the number of refused growths.
abbrev pub TakesMost : {E : Type 0} → MemSink → Result ℕ E → MemSink → List ℕ → Type 0
TakesMost before result now piece = MatchResult result
    (λ n. (is_among before.failing.items (before.calls + 1) ≡ false)
    × (now.refused ≡ before.refused) × (n ≡ min (length piece) before.most))
    (λ _. ((is_among before.failing.items (before.calls + 1) ≡ true)
    × (now.refused ≡ before.refused)) ⊎ Rose before.refused now.refused)
