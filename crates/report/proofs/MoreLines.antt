-- One more line of a report.
use Rattle.std.proofs.Common.{◌≡◌, ℕ, ◌+◌, ◌<◌, List, [], ◌∷◌, ◌++◌, length, drop, drop-cons, get_or, ap, ◌∙◌, sym, add-one, append_assoc}
use Rattle.report.specs.ReportText.{degree_lines, group_lines_from, cycle_line, cycle_lines_from}

pub degree_more : {G : Type 0} (write : G → List ℕ) (p k : ℕ) (ds : List ℕ) (cycles : List (List (List (G × ℕ)))) (zs : List (List (G × ℕ))) (before after all : List ℕ)
    → k < length ds → zs ≡ get_or cycles k []
    → after ≡ before ++ degree_lines write p k (get_or ds k 0) zs
    → before ++ group_lines_from write p k (drop k ds) cycles ≡ all
    → after ++ group_lines_from write p (k + 1) (drop (k + 1) ds) cycles ≡ all
degree_more write p k ds cycles zs before after all small there wrote e =
    let next : drop k ds ≡ get_or ds k 0 ∷ drop (k + 1) ds = rw add-one (drop-cons ds k 0 small) in
    let lines : List ℕ = degree_lines write p k (get_or ds k 0) (get_or cycles k []) in
    let rest : List ℕ = group_lines_from write p (k + 1) (drop (k + 1) ds) cycles in
    ap (λ l. l ++ rest) (wrote ∙ ap (λ l. before ++ degree_lines write p k (get_or ds k 0) l) there) ∙ append_assoc before lines rest ∙ ap (λ l. before ++ group_lines_from write p k l cycles) (sym next) ∙ e

pub cycle_more : {G : Type 0} (write : G → List ℕ) (k i : ℕ) (zs : List (List (G × ℕ))) (z : List (G × ℕ)) (before after all : List ℕ)
    → i < length zs → z ≡ get_or zs i z
    → after ≡ before ++ cycle_line write k (i + 1) z
    → before ++ cycle_lines_from write k (i + 1) (drop i zs) ≡ all
    → after ++ cycle_lines_from write k (i + 1 + 1) (drop (i + 1) zs) ≡ all
cycle_more write k i zs z before after all small there wrote e =
    let next : drop i zs ≡ z ∷ drop (i + 1) zs = rw add-one (drop-cons zs i z small) ∙ ap (λ y. y ∷ drop (i + 1) zs) (sym there) in
    let line : List ℕ = cycle_line write k (i + 1) z in
    let rest : List ℕ = cycle_lines_from write k (i + 1 + 1) (drop (i + 1) zs) in
    ap (λ l. l ++ rest) wrote ∙ append_assoc before line rest ∙ ap (λ l. before ++ cycle_lines_from write k (i + 1) l) (sym next) ∙ e
