use Rattle.std.proofs.Common.{◌++◌, ◌∷◌, [], ◌≡◌, to_z, of_z, w32, w64, rules, subst}
use Rattle.grid_files.specs.Corners.{IsCorner}
use Rattle.std.proofs.lemmas.Int.{to_z-of_z}
use Rattle.grid_files.proofs.Corners.{number_leads}
use Rattle.grid_files.proofs.corner.in_corner.Goals as goal

pub returns-in-Some : goal.returns-in-Some
returns-in-Some c =
    let same : to_z w64 (of_z w64 c.in-Number.z) ≡ c.in-Number.z = search (rules, to_z-of_z) in
    let test = rw same at c.in-Some.ensures in
    let small : to_z w32 (of_z w32 c.in-Some.z) ≡ c.in-Some.z = search (rules, to_z-of_z) in
    λ xs is. (xs ++ c.in-Some.z ∷ [], subst (λ z. IsCorner c.with.result (xs ++ z ∷ [])) small (c.with.ensures xs is), number_leads c.args.full xs c.args.piece c.in-Number.z c.in-Some.z c.in-Number.is test)
