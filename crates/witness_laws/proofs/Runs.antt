-- Lists that are joined of runs, and what each run is: where its members can be told from what follows, or its length is known.
use Rattle.std.proofs.Common.{◌≡◌, ℕ, zero, suc, ◌<◌, refl, sym, ap, ◌∙◌, arith, List, [], ◌∷◌, ◌++◌, length, get_or, map, drop, cond, append_assoc, subst, Bool}
use Rattle.std.proofs.lemmas.List.{map-append}
use Rattle.std.specs.Prelude.{true, false}
use Rattle.witness_laws.specs.Lines.{each}

-- P holds of all members
abbrev pub AllOf : {X : Type 0} → (X → Type 0) → List X → Type 0
AllOf P [] = Unit {0}
AllOf P (x ∷ xs) = P x × AllOf P xs

-- P does not hold of the first member
abbrev pub NotFirst : {X : Type 0} → (X → Type 0) → List X → Type 0
NotFirst P [] = Unit {0}
NotFirst P (x ∷ xs) = P x → ⊥

abbrev NoneOf : {X : Type 0} → (X → Type 0) → List X → Type 0
NoneOf P xs = AllOf (λ x. P x → ⊥) xs

all_append : {X : Type 0} (P : X → Type 0) (xs ys : List X) → AllOf P xs → AllOf P ys → AllOf P (xs ++ ys)
all_append P [] ys a b = b
all_append P (x ∷ xs) ys a b = (a.0, all_append P xs ys a.1 b)

pub all_each : {X : Type 0} (P : X → Type 0) (n : ℕ) (f : ℕ → List X) → ((i : ℕ) → AllOf P (f i)) → AllOf P (each n f)
all_each P zero f a = tt
all_each P (suc n) f a = all_append P (f 0) (each n (λ i. f (suc i))) (a 0) (all_each P n (λ i. f (suc i)) (λ i. a (suc i)))

all_none : {X : Type 0} (P Q : X → Type 0) (xs : List X) → ((x : X) → P x → Q x → ⊥) → AllOf Q xs → NoneOf P xs
all_none P Q [] h a = tt
all_none P Q (x ∷ xs) h a = (λ p. h x p a.0, all_none P Q xs h a.1)

not_append : {X : Type 0} (P : X → Type 0) (xs u : List X) → NoneOf P xs → NotFirst P u → NotFirst P (xs ++ u)
not_append P [] u a c = c
not_append P (x ∷ xs) u a c = a.0

pub not_each : {X : Type 0} (P : X → Type 0) (n : ℕ) (f : ℕ → List X) (u : List X) → ((i : ℕ) → NoneOf P (f i)) → NotFirst P u → NotFirst P (each n f ++ u)
not_each P zero f u a c = c
not_each {X} P (suc n) f u a c =
    let r : List X = each n (λ i. f (suc i)) in
    subst (NotFirst P) (sym (append_assoc (f 0) r u)) (not_append P (f 0) (r ++ u) (a 0) (not_each P n (λ i. f (suc i)) u (λ i. a (suc i)) c))

-- ---- two runs

tail : {X : Type 0} (x y : X) (xs ys : List X) → x ∷ xs ≡ y ∷ ys → xs ≡ ys
tail x y xs ys e = ap (drop 1) e

head : {X : Type 0} (x y : X) (xs ys : List X) → x ∷ xs ≡ y ∷ ys → x ≡ y
head x y xs ys e = ap (λ l. get_or l 0 x) e

joined : {X : Type 0} (x y : X) (xs ys : List X) → x ≡ y → xs ≡ ys → x ∷ xs ≡ y ∷ ys
joined x y xs ys e f = ap (λ z. z ∷ xs) e ∙ ap (λ l. y ∷ l) f

split_runs : {X : Type 0} (P : X → Type 0) (xs ys u v : List X) → AllOf P xs → AllOf P ys → NotFirst P u → NotFirst P v → xs ++ u ≡ ys ++ v → (xs ≡ ys) × (u ≡ v)
split_runs P [] [] u v a b c d e = (refl, e)
split_runs P [] (y ∷ ys) u v a b c d e = absurd (subst (NotFirst P) e c b.0)
split_runs P (x ∷ xs) [] u v a b c d e = absurd (subst (NotFirst P) (sym e) d a.0)
split_runs P (x ∷ xs) (y ∷ ys) u v a b c d e =
    let w = split_runs P xs ys u v a.1 b.1 c d (tail x y (xs ++ u) (ys ++ v) e) in
    (joined x y xs ys (head x y (xs ++ u) (ys ++ v) e) w.0, w.1)

pub split_lengths : {X : Type 0} (xs ys u v : List X) → length xs ≡ length ys → xs ++ u ≡ ys ++ v → (xs ≡ ys) × (u ≡ v)
split_lengths [] [] u v l e = (refl, e)
split_lengths [] (y ∷ ys) u v l e = absurd (omega arith)
split_lengths (x ∷ xs) [] u v l e = absurd (omega arith)
split_lengths (x ∷ xs) (y ∷ ys) u v l e =
    let w = split_lengths xs ys u v (omega arith) (tail x y (xs ++ u) (ys ++ v) e) in
    (joined x y xs ys (head x y (xs ++ u) (ys ++ v) e) w.0, w.1)

-- ---- many runs

pick : {A : Type 0} (n : ℕ) (f g : ℕ → A) → f 0 ≡ g 0 → ((i : ℕ) → i < n → f (suc i) ≡ g (suc i)) → (i : ℕ) → i < suc n → f i ≡ g i
pick n f g h r zero l = h
pick n f g h r (suc i) l = r i (omega arith)

pub each_same : {X : Type 0} (n : ℕ) (f g : ℕ → List X) → ((i : ℕ) → f i ≡ g i) → each n f ≡ each n g
each_same zero f g h = refl
each_same (suc n) f g h =
    ap (λ l. l ++ each n (λ i. f (suc i))) (h 0) ∙ ap (λ l. g 0 ++ l) (each_same n (λ i. f (suc i)) (λ i. g (suc i)) (λ i. h (suc i)))

pub map_each : {X Y : Type 0} (h : X → Y) (n : ℕ) (f : ℕ → List X) → map h (each n f) ≡ each n (λ i. map h (f i))
map_each h zero f = refl
map_each h (suc n) f = map-append h (f 0) (each n (λ i. f (suc i))) ∙ ap (λ l. map h (f 0) ++ l) (map_each h n (λ i. f (suc i)))

-- the members of each run have a mark that those of no other run have
pub runs_each : {X : Type 0} (n : ℕ) (own : ℕ → X → Type 0) → ((i j : ℕ) (x : X) → own i x → own j x → i ≡ j) → (f g : ℕ → List X) (u v : List X)
    → ((i : ℕ) → AllOf (own i) (f i)) → ((i : ℕ) → AllOf (own i) (g i)) → ((i : ℕ) → NotFirst (own i) u) → ((i : ℕ) → NotFirst (own i) v)
    → each n f ++ u ≡ each n g ++ v → ((i : ℕ) → i < n → f i ≡ g i) × (u ≡ v)
runs_each zero own t f g u v a b c d e = (λ i l. absurd (omega arith), e)
runs_each {X} (suc n) own t f g u v a b c d e =
    let fs : List X = each n (λ i. f (suc i)) in
    let gs : List X = each n (λ i. g (suc i)) in
    let other : (i : ℕ) (x : X) → own 0 x → own (suc i) x → ⊥ = λ i x p q. let k : 0 ≡ suc i = t 0 (suc i) x p q in omega arith in
    let w = split_runs (own 0) (f 0) (g 0) (fs ++ u) (gs ++ v) (a 0) (b 0)
    (not_each (own 0) n (λ i. f (suc i)) u (λ i. all_none (own 0) (own (suc i)) (f (suc i)) (other i) (a (suc i))) (c 0))
    (not_each (own 0) n (λ i. g (suc i)) v (λ i. all_none (own 0) (own (suc i)) (g (suc i)) (other i) (b (suc i))) (d 0))
    (sym (append_assoc (f 0) fs u) ∙ e ∙ append_assoc (g 0) gs v) in
    let r = runs_each n (λ i. own (suc i)) (λ i j x p q. let k : suc i ≡ suc j = t (suc i) (suc j) x p q in omega arith) (λ i. f (suc i)) (λ i. g (suc i)) u v
    (λ i. a (suc i)) (λ i. b (suc i)) (λ i. c (suc i)) (λ i. d (suc i)) w.1 in
    (pick n f g w.0 r.0, r.1)

-- the runs have the same lengths
pub lengths_each : {X : Type 0} (n : ℕ) (f g : ℕ → List X) (u v : List X) → ((i : ℕ) → i < n → length (f i) ≡ length (g i))
    → each n f ++ u ≡ each n g ++ v → ((i : ℕ) → i < n → f i ≡ g i) × (u ≡ v)
lengths_each zero f g u v s e = (λ i l. absurd (omega arith), e)
lengths_each {X} (suc n) f g u v s e =
    let fs : List X = each n (λ i. f (suc i)) in
    let gs : List X = each n (λ i. g (suc i)) in
    let w = split_lengths (f 0) (g 0) (fs ++ u) (gs ++ v) (s 0 (omega arith)) (sym (append_assoc (f 0) fs u) ∙ e ∙ append_assoc (g 0) gs v) in
    let r = lengths_each n (λ i. f (suc i)) (λ i. g (suc i)) u v (λ i l. s (suc i) (omega arith)) w.1 in
    (pick n f g w.0 r.0, r.1)

-- runs of one member each
pub length_singles : {X : Type 0} (n : ℕ) (x : ℕ → X) → length (each n (λ i. x i ∷ [])) ≡ n
length_singles zero x = refl
length_singles (suc n) x = ap suc (length_singles n (λ i. x (suc i)))

pub singles : {X : Type 0} (m n : ℕ) (x y : ℕ → X) → each m (λ i. x i ∷ []) ≡ each n (λ i. y i ∷ []) → (m ≡ n) × ((i : ℕ) → i < m → x i ≡ y i)
singles zero zero x y e = (refl, λ i l. absurd (omega arith))
singles zero (suc n) x y e = absurd (let q : 0 ≡ length (each (suc n) (λ i. y i ∷ [])) = ap length e in let r = length_singles (suc n) y in omega arith)
singles (suc m) zero x y e = absurd (let q : length (each (suc m) (λ i. x i ∷ [])) ≡ 0 = ap length e in let r = length_singles (suc m) x in omega arith)
singles (suc m) (suc n) x y e =
    let w = singles m n (λ i. x (suc i)) (λ i. y (suc i)) (tail (x 0) (y 0) (each m (λ i. x (suc i) ∷ [])) (each n (λ i. y (suc i) ∷ [])) e) in
    (ap suc w.0, pick m x y (head (x 0) (y 0) (each m (λ i. x (suc i) ∷ [])) (each n (λ i. y (suc i) ∷ [])) e) w.1)

-- no run at all, or so many
pub each_or_none : {X : Type 0} (b : Bool) (n : ℕ) (f : ℕ → List X) → cond b [] (each n f) ≡ each (cond b 0 n) f
each_or_none true n f = refl
each_or_none false n f = refl
