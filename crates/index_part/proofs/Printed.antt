-- Chains of numbers of cells as they are printed.
use Rattle.std.proofs.Common.{ℕ, List, length, Bool}
use Rattle.std.specs.List.Sorted.{IsStrictlySortedBy}
use Rattle.field_mod.specs.Modular.{Same}
use Rattle.elem_cubes.specs.Cells.{Factor}
use Rattle.elem_cubes.specs.Order.{cell_cmp}
use Rattle.elem_cubes.proofs.Modular.{exact}
use Rattle.chains.specs.Terms.{coefficient, IsNormalWithin}
use Rattle.chains.proofs.TermLists.{coefficient-above}
use Rattle.cell_complex.specs.Numbering.{IsListing, by_cell, cell_coefficient, cell_terms}
use Rattle.basis_reports.proofs.Printing.{ordered, reduced}
use Rattle.index_part.specs.Refusals.{IsPrintedChain}
use Rattle.basis_reports.proofs.Terms.{terms_by_cell}

module _ (p : ℕ) (test : List Factor → Bool) (cells : List (List Factor)) (listing : IsListing test cells) (sorted : IsStrictlySortedBy cell_cmp cells) (ts : List (ℕ × ℕ)) (normal : IsNormalWithin p 0 (length cells) ts) where
  pub printed_chain : IsPrintedChain p (cell_terms cells ts)
  printed_chain = record { ordered = ordered p cells sorted 0 ts normal; coefficients = reduced p cells sorted 0 ts normal }

  -- as a chain of cells it is the numbered one
  pub printed_by_cell : (q : List Factor) → Same p (cell_coefficient (cell_terms cells ts) q) (by_cell cells (coefficient ts) q)
  printed_by_cell q = exact p (terms_by_cell test cells listing ts (λ g m. coefficient-above p 0 (length cells) ts g normal m) q)
