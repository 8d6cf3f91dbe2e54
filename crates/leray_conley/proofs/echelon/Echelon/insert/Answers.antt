use Rattle.std.proofs.Common.{◌∙◌, ◌*◌, ◌%◌, ◌++◌, ◌∷◌, ℕ, List, ap, sym, subst, arith, get_or, length, []}
use Rattle.field_mod.proofs.Table.{two_le}
use Rattle.leray_conley.specs.Echelons.{HasEchelon, IsExtended, cell}
use Rattle.leray_conley.proofs.Insertions.{IsCleared, IsTaken, nothing_left, taken_form, taken_kernel}
use Rattle.leray_conley.proofs.echelon.Echelon.insert.Goals as goal

pub returns-in_default-clause-kernel : goal.returns-in_default-clause-kernel
returns-in_default-clause-kernel g c =
    let s = c.args.self.now in
    let h : IsCleared g.row.P (length c.args.row) s.rows.items s.pivots.items c.args.row c.clear_row.new.row =
    record { len = c.clear_row.ensures.len; zero_at = c.clear_row.ensures.cleared; kernel = c.clear_row.ensures.kernel } in
    nothing_left g.row.P (length c.args.row) s.rows.items s.pivots.items c.args.row c.clear_row.new.row h (λ j l. c.in_default.ensures j (let e = c.clear_row.ensures.len in omega arith))

-- what the steps before the two pushes have shown
cleared : (g : _) (c : goal.In_ok-push-2 g) → IsCleared g.row.P (length c.args.row) c.args.self.now.rows.items c.args.self.now.pivots.items c.args.row c.clear_row.new.row
cleared g c = record { len = c.clear_row.ensures.len; zero_at = c.clear_row.ensures.cleared; kernel = c.clear_row.ensures.kernel }

taken : (g : _) (c : goal.In_ok-push-2 g) → IsTaken g.row.P (length c.args.row) c.args.self.now.rows.items c.clear_row.new.row c.scale.new.self c.in-Some.c c.inv.result c.clear_column.new.rows.items
taken g c =
    let e = c.clear_row.ensures.len in
    let f = c.scale.ensures.len in
    record {
      lead = c.in-Some.ensures;
      len = f ∙ e;
      value = λ j l. c.scale.ensures.value j (omega arith);
      one = ap (λ (x : ℕ). (c.inv.result * x) % g.row.P) (sym c.entry.ensures.value) ∙ c.inv.ensures.value;
      count = c.clear_column.ensures.len;
      widths = λ k l. c.clear_column.ensures.widths k l ∙ f ∙ e;
      entries = λ k j l m. c.clear_column.ensures.value k j l (omega arith);
    }

pub returns-in_ok-push-2-clause-form : goal.returns-in_ok-push-2-clause-form
returns-in_ok-push-2-clause-form g c =
    let n = length c.args.row in
    let s = c.args.self.now in
    subst (λ (xs : List (List ℕ)). HasEchelon g.row.P n xs c.push-in-Some.new.self.items) (sym c.in_ok-push.ensures.items)
    (subst (λ (ys : List ℕ). HasEchelon g.row.P n (c.clear_column.new.rows.items ++ c.scale.new.self ∷ []) ys) (sym c.in_ok-push-2.ensures.items)
    (taken_form g.row.P n c.in-Some.c c.inv.result s.rows.items c.clear_column.new.rows.items s.pivots.items c.args.row c.clear_row.new.row c.scale.new.self (two_le g.row.P c.args.f.listed) c.requires.form (cleared g c) (taken g c)))

pub returns-in_ok-push-2-clause-kernel : goal.returns-in_ok-push-2-clause-kernel
returns-in_ok-push-2-clause-kernel g c =
    let n = length c.args.row in
    let s = c.args.self.now in
    subst (λ (xs : List (List ℕ)). IsExtended g.row.P n (length s.rows.items) (length xs) (cell s.rows.items) (λ j. get_or c.args.row j 0) (cell xs)) (sym c.in_ok-push.ensures.items)
    (taken_kernel g.row.P n c.in-Some.c c.inv.result s.rows.items c.clear_column.new.rows.items s.pivots.items c.args.row c.clear_row.new.row c.scale.new.self (two_le g.row.P c.args.f.listed) c.requires.form (cleared g c) (taken g c))
