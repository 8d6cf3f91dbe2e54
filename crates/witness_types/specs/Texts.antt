-- The whole text of a witness file.
use Rattle.std.specs.Prelude.{ℕ, List, ◌++◌}
use Rattle.std.specs.List.{flat_map}
use Rattle.witness_laws.specs.Formats.{Format, MeetsFirst, texts_of}
use Rattle.witness_laws.specs.Tables.{Tables, tables_format}
use Rattle.witness_types.specs.declared.heading.Header.{Header}
use Rattle.witness_types.specs.Headers.{header_lines}
use Rattle.witness_types.specs.declared.input.Input.{Input}
use Rattle.witness_types.specs.Inputs.{given_of, kind_of}

-- the text of a value: the lines of the header and those of the value
abbrev pub text_by : {V : Type 0} → Format V → Header → V → List ℕ
text_by F h v = flat_map (λ t. t) (header_lines h) ++ flat_map (λ t. t) (texts_of F v)

abbrev pub tables_text : ℕ → Input → Tables → List ℕ
tables_text p input W =
    text_by (tables_format p (given_of input))
    (record { version = 1; modulus = p; kind = kind_of input }) W

-- a value that a text may have, which fails by no law of the first pass
pub record IsWritable {V : Type 0} (F : Format V) (v : V) : Type 0 where
  pub fits : F.fits v
  pub first : MeetsFirst F v
