use Rattle.std.proofs.Common.{◌∙◌, ◌*◌, ℕ, ap, arith, sym, lit<}
use Rattle.leray_conley.proofs.Assembled.{assembled, reduced_columns, reduced_free, reduced_rows, reduced_square, small_size, split_free, split_square, whole_columns, whole_rows}
use Rattle.leray_conley.proofs.matrix.Matrix.leray.Goals as goal

pub side_by_side-requires : goal.side_by_side-requires
side_by_side-requires g c =
    let s = c.in_ok-image.field-0 in
    let e = c.in_ok-image.ensures in
    let z = e.split.sizes in
    let d = c.args.self.now.rows in
    let b = e.bound in
    let l = small_size d b in
    let m = ap (λ (x : ℕ). x * d) e.image_rows in
    let n = ap (λ (x : ℕ). s.image.rows * x) z in
    (lit< tt, (e.image_rows ∙ sym e.kernel_rows, ((omega arith), (omega arith))))

pub known_inverse-requires : goal.known_inverse-requires
known_inverse-requires g c =
    let s = c.in_ok-image.field-0 in
    let e = c.in_ok-image.ensures in
    let a = c.args.self.now in
    let sp = c.in_ok-split.split in
    (lit< tt, (lit< tt, (split_square g.row.P a s.image s.kernel sp sp c.requires.square e.image_rows e.split c.in_ok-split.ensures, split_free g.row.P a s.image s.kernel sp sp c.requires.square e.image_rows e.split c.in_ok-split.ensures)))

pub known_inverse-requires-2 : goal.known_inverse-requires-2
known_inverse-requires-2 g c =
    let p = g.row.P in
    let s = c.in_ok-image.field-0 in
    let e = c.in_ok-image.ensures in
    let a = c.args.self.now in
    let sp = c.in_ok-split.split in
    let w = c.in_ok-split_inverse.split_inverse in
    let i = c.in_ok-split_inverse.ensures in (
      lit< tt,
      (
        lit< tt,
        (
          reduced_square p a s.image s.kernel sp w c.requires.square e.image_rows e.split c.in_ok-split.ensures i.rows i.columns i.inverse c.in_ok-moved.moved c.in_ok-whole.whole c.in_ok-reduced.reduced c.columns.result c.in_ok-moved.ensures c.in_ok-whole.ensures c.columns.ensures.value c.in_ok-reduced.ensures,
          reduced_free p a s.image s.kernel sp w c.requires.square e.image_rows e.split c.in_ok-split.ensures i.rows i.columns i.inverse c.in_ok-moved.moved c.in_ok-whole.whole c.in_ok-reduced.reduced c.columns.result c.in_ok-moved.ensures c.in_ok-whole.ensures c.columns.ensures.value c.in_ok-reduced.ensures,
        ),
      ),
    )

pub returns : goal.returns
returns g c =
    let p = g.row.P in
    let s = c.in_ok-image.field-0 in
    let e = c.in_ok-image.ensures in
    let a = c.args.self.now in
    let sp = c.in_ok-split.split in
    let w = c.in_ok-split_inverse.split_inverse in
    let i = c.in_ok-split_inverse.ensures in
    let r = c.in_ok-reduced_inverse.ensures in
    let rows = reduced_rows p a s.image s.kernel sp w c.requires.square e.image_rows e.split c.in_ok-split.ensures i.rows i.columns i.inverse c.in_ok-moved.moved c.in_ok-whole.whole c.in_ok-reduced.reduced c.columns.result c.in_ok-moved.ensures c.in_ok-whole.ensures c.columns.ensures.value c.in_ok-reduced.ensures in
    record {
      sizes = record {
        image_rows = e.image_rows;
        kernel_rows = e.kernel_rows;
        columns = e.split.sizes;
        reduced_rows = rows;
        reduced_columns = reduced_columns p a s.image s.kernel sp w c.requires.square e.image_rows e.split c.in_ok-split.ensures i.rows i.columns i.inverse c.in_ok-moved.moved c.in_ok-whole.whole c.in_ok-reduced.reduced c.columns.result c.in_ok-moved.ensures c.in_ok-whole.ensures c.columns.ensures.value c.in_ok-reduced.ensures;
        reduced_inverse_rows = r.rows ∙ rows;
        reduced_inverse_columns = r.columns ∙ rows;
        split_inverse_rows = whole_rows p a s.image s.kernel sp w c.requires.square e.image_rows e.split c.in_ok-split.ensures i.rows i.columns i.inverse;
        split_inverse_columns = whole_columns p a s.image s.kernel sp w c.requires.square e.image_rows e.split c.in_ok-split.ensures i.rows i.columns i.inverse;
      };
      splitting = assembled p a s.image s.kernel sp w c.requires.square e.image_rows e.split c.in_ok-split.ensures i.rows i.columns i.inverse c.in_ok-moved.moved c.in_ok-whole.whole c.in_ok-reduced.reduced c.columns.result c.in_ok-moved.ensures c.in_ok-whole.ensures c.columns.ensures.value c.in_ok-reduced.ensures c.in_ok-reduced_inverse.reduced_inverse r.inverse;
    }
