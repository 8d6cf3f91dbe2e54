-- What is known of a chain file behind some of its tokens, and what its numbers make of that.
use Rattle.std.specs.Prelude.{ℕ, ◌+◌, ◌-◌, ◌%◌, ℤ, pos, negsuc, [], ◌∷◌, ◌++◌, replicate, true, ◌&&◌, nat_le, nat_lt, if◌then◌else◌, Option, None, Some, Result, Ok, Err, slice_index_or, slice_set}
use Rattle.chain_files.specs.Content.{Boundary, not_given, Content}
use Rattle.chain_files.specs.declared.block.Block.{Block}
use Rattle.chain_files.specs.declared.fault.ChainCause.{ChainCause}
use Rattle.chain_files.specs.declared.fault.ChainCause.TheVariants.{BadNumber, UnknownGenerator, RepeatedGenerator, TooManyGenerators}
use Rattle.chain_files.specs.Numbers.{most_generators, greatest_degree}

-- What the file says so far; the degree that comes next; the generators of the last degree, `here`,
-- and of the one before, `below`; how many terms there are; and the generator whose boundary came
-- last.
pub record Known : Type 0 where
  pub content : Content
  pub next : ℕ
  pub below : Block
  pub here : Block
  pub terms : ℕ
  pub last : ℕ

abbrev pub empty_block : Block
empty_block = record { first = 0; count = 0 }

abbrev pub nothing_known : Known
nothing_known = record {
  content = record { top = 0; degrees = []; boundaries = [] };
  next = 0;
  below = empty_block;
  here = empty_block;
  terms = 0;
  last = 0;
}

-- A whole number modulo p, from 0 to p - 1; negsuc n is -(n + 1).
abbrev pub residue : ℕ → ℤ → ℕ
residue p (pos n) = n % p
residue p (negsuc n) = p - 1 - n % p

-- The number of the generator that a file calls z; in each degree these are numbered from 1 on.
abbrev pub number_in : Block → ℤ → Option ℕ
number_in block (pos n) = if nat_lt 0 n && nat_le n block.count then Some (block.first + (n - 1))
    else None
number_in block (negsuc n) = None

-- The greatest degree is read.
abbrev pub with_top : Known → ℤ → Result Known ChainCause
with_top s (pos n) = if nat_le n greatest_degree
    then Ok (record s { content = record s.content { top = n } }) else Err BadNumber
with_top s (negsuc n) = Err BadNumber

-- So many generators of a degree.
abbrev pub with_generators : Known → ℕ → ℕ → Known
with_generators s degree n = record s {
  content = record s.content {
    degrees = s.content.degrees ++ replicate n degree;
    boundaries = s.content.boundaries ++ replicate n not_given;
  };
  next = degree + 1;
  below = s.here;
  here = record { first = s.here.first + s.here.count; count = n };
}

-- How many generators the degree has is read.
abbrev pub with_degree : Known → ℕ → ℤ → Result Known ChainCause
with_degree s degree (pos n) =
    if nat_le (s.here.first + s.here.count + n) most_generators then Ok (with_generators s degree n)
    else Err TooManyGenerators
with_degree s degree (negsuc n) = Err BadNumber

-- The boundary of a generator begins, and none of it stood before.
abbrev pub boundary_at : Known → ℕ → Boundary
boundary_at s h = slice_index_or s.content.boundaries h not_given

abbrev pub with_boundary_at : Known → ℕ → Boundary → Known
with_boundary_at s h b = record s {
  content = record s.content
      { boundaries = slice_set s.content.boundaries h b };
  last = h;
}

abbrev pub opened : Known → Option ℕ → Result Known ChainCause
opened s None = Err UnknownGenerator
opened s (Some h) = if (boundary_at s h).given then Err RepeatedGenerator
    else Ok (with_boundary_at s h (record { given = true; terms = [] }))

abbrev pub with_boundary : Known → ℤ → Result Known ChainCause
with_boundary s z = opened s (number_in s.here z)

-- One more term counts.
abbrev pub with_count : Known → Known
with_count s = record s { terms = s.terms + 1 }

-- The generator of a term with this coefficient is read; the term belongs to the boundary that came
-- last.
abbrev pub joined : Known → ℕ → Option ℕ → Result Known ChainCause
joined s number None = Err UnknownGenerator
joined s number (Some g) = Ok (with_boundary_at s s.last (record {
  given = (boundary_at s s.last).given;
  terms = (boundary_at s s.last).terms ++ (g, number) ∷ [];
}))

abbrev pub with_term : Known → ℕ → ℤ → Result Known ChainCause
with_term s number z = joined s number (number_in s.below z)
