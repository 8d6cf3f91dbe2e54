use Rattle.std.proofs.Common.{[], ◌∷◌, ◌++◌, subst}
use Rattle.map_files.specs.Items.{cause_of, with_item}
use Rattle.map_files.specs.Openings.{IsValues}
use Rattle.map_files.specs.Readers.{Joins}
use Rattle.map_files.proofs.Gathering.{single_item, listed_item, fits_one}
use Rattle.map_files.proofs.gathered.Gathered.join.Goals as goal

pub returns-in-Ok : goal.returns-in-Ok
returns-in-Ok c = λ m vs item g vals is fit.
    single_item (λ item. Joins (cause_of m item) (with_item m item) c.join_element.new.self c.join_element.result) vs c.args.closing c.in-Single.left c.in-Single.value item c.in-Single.is is fit
    (λ q v iq iv none fq fv. c.join_element.ensures m q (v ∷ []) g iq (subst (λ l. IsValues c.add.new.self (l ++ v ∷ [])) none (c.in-Ok.ensures vs v vals iv fv)) (fits_one q v fq fv))

pub returns-in-Listed : goal.returns-in-Listed
returns-in-Listed c = λ m vs item g vals is fit.
    listed_item (λ item. Joins (cause_of m item) (with_item m item) c.join_element-in-Listed.new.self c.join_element-in-Listed.result) vs c.args.closing c.in-Listed.left item c.in-Listed.is is fit
    (λ q iq f. c.join_element-in-Listed.ensures m q vs g iq vals f)
