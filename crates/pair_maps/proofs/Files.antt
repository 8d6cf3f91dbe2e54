-- The files of a map of pairs.
use Rattle.std.proofs.Common.{◌≡◌, ℕ, ◌*◌, Bool, true, false, cond, List, [], ◌∷◌, ◌++◌, length, Option, None, Some, Result, Ok, Err, IfOk, IfErr, Contains, refl, subst, sym, ap, ◌∙◌, ◌+◌, ◌⊎◌, inl, inr, ⊎_elim, arith}
use Rattle.std.proofs.lemmas.List.Elements.{Contains-append_left, Contains-append_right}
use Rattle.outside.specs.Seen.{Seen}
use Rattle.cube_sets.specs.Sets.{Members, dimensions_agree}
use Rattle.cube_maps.specs.CubeMaps.{Mapping}
use Rattle.grid_files.specs.declared.fault.Kind.TheVariants.{Full}
use Rattle.faults.specs.declared.fault.Fault.{Fault}
use Rattle.faults.specs.declared.fault.Fault.TheVariants.{Dimension, OutOfMemory}
use Rattle.loading.specs.Steps.{Then, Is, IsDue}
use Rattle.loading.specs.Readings.{Reading, read_bytes}
use Rattle.loading.specs.Sets.{IsSetIn, IsSubsetIn, and_subset}
use Rattle.loading.specs.Maps.{IsMapIn}
use Rattle.loading.specs.TwoSets.{two_names, two_bytes, second_name}
use Rattle.loading.specs.Loads.{Loads}
use Rattle.loading.specs.declared.two_sets.TwoSets.{TwoSets}
use Rattle.loading.proofs.Steps.{settled}
use Rattle.loading.proofs.OfFiles.{IsPlain, IsOfFiles, then_files, made, value_made, set_in_files, subset_in_files}
use Rattle.loading.proofs.Loading.{named_itself, named_later, then_loads, refused, after, widened}
use Rattle.loading.proofs.LoadingMaps.{map_in_files}
use Rattle.pair_maps.specs.declared.inputs.MapFiles.{MapFiles}
use Rattle.pair_maps.specs.declared.inputs.PairMap.{PairMap}
use Rattle.pair_maps.specs.Inputs.{known, with_known, and_then, with_pair, agreed, agreeing, pair_map, names_of, bytes_of, ArePairIn, IsPairMapIn}

-- ---- a set and its subset

module _ (x : List ℕ) (a : Option (List ℕ)) where
  abbrev sets_of : Members → Members → TwoSets
  sets_of s t = record { x = s; y = t }

  abbrev pub Subset : Reading → Members → Result TwoSets Fault → Type 0
  Subset read s = Then (IsSubsetIn Full a read) (λ t. Is (Ok (sets_of s t)))

  pub pair_in_files : (names : List (List ℕ)) → ((n : List ℕ) → Contains (two_names x a) n → Contains names n) → IsOfFiles names (ArePairIn x a)
  pair_in_files names within = then_files names (IsSetIn Full x) Subset (set_in_files names Full x (within x (named_itself (and_subset a) x)))
      (λ s. then_files names (IsSubsetIn Full a) (λ read t. Is (Ok (sets_of s t))) (subset_in_files names Full a (λ n w. within n (named_later (and_subset a) x n w)))
      (λ t. made names (Is (Ok (sets_of s t))) (value_made (sets_of s t))))

  module _ (old between new : Seen) (s : Members) (h : Loads read_bytes (IsSetIn Full x) old between (Ok s)) where
    both : (result : Result TwoSets Fault) → Loads (length (and_subset a) * read_bytes) (λ read. Subset read s) between new result → Loads (two_bytes a) (ArePairIn x a) old new result
    both result k = after (two_names x a) read_bytes (length (and_subset a) * read_bytes) (IsSetIn Full x) Subset old between new s
        (set_in_files (two_names x a) Full x (named_itself (and_subset a) x)) h result k

    -- the subset is refused
    pub subset_refused : (fault : Fault) → Loads {A = Members} (length (and_subset a) * read_bytes) (IsSubsetIn Full a) between new (Err fault) → Loads (two_bytes a) (ArePairIn x a) old new (Err fault)
    subset_refused fault k = both (Err fault) (refused (length (and_subset a) * read_bytes) (IsSubsetIn Full a) (λ read t. Is (Ok (sets_of s t))) between new fault k)

    -- both are loaded
    pub pair_loads : (t : Members) → Loads {A = Members} (length (and_subset a) * read_bytes) (IsSubsetIn Full a) between new (Ok t) → Loads (two_bytes a) (ArePairIn x a) old new (Ok (sets_of s t))
    pair_loads t k = both (Ok (sets_of s t)) (then_loads (length (and_subset a) * read_bytes) (IsSubsetIn Full a) (λ t. Is (Ok (sets_of s t))) between new t k
        (λ fault e. absurd (let never : ◌≡◌ {A = Result TwoSets Fault} (Err fault) (Ok (sets_of s t)) = e in cc)) (Ok (sets_of s t)) refl tt)

-- the set of the pair is refused
pub set_refused : (x : List ℕ) (a : Option (List ℕ)) (old new : Seen) (fault : Fault) → Loads {A = Members} read_bytes (IsSetIn Full x) old new (Err fault) → Loads (two_bytes a) (ArePairIn x a) old new (Err fault)
set_refused x a old new fault h = widened {A = TwoSets} read_bytes (two_bytes a) (ArePairIn x a) old new (Err fault) (omega arith) (refused read_bytes (IsSetIn Full x) (Subset x a) old new fault h)

-- the same pair, whose subset's file is named otherwise
pub pair_of : (x : List ℕ) (named a : Option (List ℕ)) (old new : Seen) (result : Result TwoSets Fault) → named ≡ a → Loads (two_bytes named) (ArePairIn x named) old new result → Loads (two_bytes a) (ArePairIn x a) old new result
pair_of x named a old new result e h = subst (λ (n : Option (List ℕ)). Loads (two_bytes n) (ArePairIn x n) old new result) e h

-- ---- dimensions

-- where both steps refuse, one of them does
either_refuses : {A B : Type 0} (first : Result A Fault) (next : A → Result B Fault) (fault : Fault) → and_then first next ≡ Err fault → (first ≡ Err fault) ⊎ ((x : A) × (next x ≡ Err fault))
either_refuses (Ok x) next fault e = inr (x, e)
either_refuses {A} {B} (Err other) next fault e = inl (let same : ◌≡◌ {A = Result B Fault} (Err other) (Err fault) = e in let i : other ≡ fault = cc in ap (λ f. Err f) i)

known_plain : (before : ℕ) (name : List ℕ) (set : Members) (fault : Fault) → with_known before name set ≡ Err fault → IsPlain fault
known_plain before name set fault e = by (dimensions_agree before set.dimension) e
  where
    by : (b : Bool) → cond b (Ok (known before set.dimension)) (Err (Dimension name set.dimension before)) ≡ Err fault → IsPlain fault
    by true e = let never : ◌≡◌ {A = Result ℕ Fault} (Ok (known before set.dimension)) (Err fault) = e in cc
    by false e = let same : ◌≡◌ {A = Result ℕ Fault} (Err (Dimension name set.dimension before)) (Err fault) = e in subst IsPlain (let i : Dimension name set.dimension before ≡ fault = cc in i) tt

pair_plain : (before : ℕ) (x : List ℕ) (a : Option (List ℕ)) (sets : TwoSets) (fault : Fault) → with_pair before x a sets ≡ Err fault → IsPlain fault
pair_plain before x a sets fault e = ⊎_elim
    (λ r. known_plain before x sets.x fault r)
    (λ (with_x, r). known_plain with_x (second_name x a) sets.y fault r)
    (either_refuses (with_known before x sets.x) (λ with_x. with_known with_x (second_name x a) sets.y) fault e)

agreeing_plain : (files : MapFiles) (map : Mapping) (domain range : TwoSets) (fault : Fault) → Is (agreeing files map domain range) (Err fault) → IsPlain fault
agreeing_plain files map domain range fault e = ⊎_elim
    (λ r. ⊎_elim
    (λ r. pair_plain map.dimension files.x files.a domain fault r)
    (λ (with_domain, r). pair_plain with_domain files.y files.b range fault r)
    (either_refuses (with_pair map.dimension files.x files.a domain) (λ with_domain. with_pair with_domain files.y files.b range) fault r))
    (λ (known, r). absurd (let never : ◌≡◌ {A = Result PairMap Fault} (Ok (pair_map map domain range)) (Err fault) = r in cc))
    (either_refuses (agreed files map domain range) (λ known. Ok (pair_map map domain range)) fault (sym e))

-- a due first step that gave a value goes on, and one that did not ends both
pub due_goes_on : {A B : Type 0} (first : Result A Fault) (next : A → Result B Fault) (x : A) (result : Result B Fault) → IsDue first (Ok x) → IsDue (next x) result → IsDue (and_then first next) result
due_goes_on first next x (Ok y) h k = ap (λ f. and_then f next) h ∙ k
due_goes_on first next x (Err fault) h (inl k) = inl (ap (λ f. and_then f next) h ∙ k)
due_goes_on first next x (Err fault) h (inr e) = inr e

pub due_ends : {A B : Type 0} (first : Result A Fault) (next : A → Result B Fault) (fault : Fault) → IsDue first (Err fault) → IsDue {A = B} (and_then first next) (Err fault)
due_ends first next fault (inl h) = inl (ap (λ f. and_then f next) h)
due_ends first next fault (inr e) = inr e

-- ---- the map and both pairs

module _ (files : MapFiles) where
  abbrev pub names : List (List ℕ)
  names = names_of files

  abbrev pub Range : Mapping → TwoSets → TwoSets → Result PairMap Fault → Type 0
  Range map domain range = Is (agreeing files map domain range)

  abbrev pub Later : Mapping → Reading → TwoSets → Result PairMap Fault → Type 0
  Later map read domain = Then (ArePairIn files.y files.b read) (Range map domain)

  abbrev pub Rest : Reading → Mapping → Result PairMap Fault → Type 0
  Rest read map = Then (ArePairIn files.x files.a read) (Later map read)

  map_files : IsOfFiles names (IsMapIn files.map)
  map_files = map_in_files names files.map (named_itself (two_names files.x files.a ++ two_names files.y files.b) files.map)

  domain_files : IsOfFiles names (ArePairIn files.x files.a)
  domain_files = pair_in_files files.x files.a names (λ n w. named_later (two_names files.x files.a ++ two_names files.y files.b) files.map n
      (Contains-append_left (two_names files.x files.a) (two_names files.y files.b) n w))

  range_files : IsOfFiles names (ArePairIn files.y files.b)
  range_files = pair_in_files files.y files.b names (λ n w. named_later (two_names files.x files.a ++ two_names files.y files.b) files.map n
      (Contains-append_right (two_names files.x files.a) (two_names files.y files.b) n w))

  pub map_of_files : IsOfFiles names (IsPairMapIn files)
  map_of_files = then_files names (IsMapIn files.map) Rest map_files
      (λ map. then_files names (ArePairIn files.x files.a) (Later map) domain_files
      (λ domain. then_files names (ArePairIn files.y files.b) (λ read. Range map domain) range_files
      (λ range. made names (Range map domain range) (record { one = settled (agreeing files map domain range); plain = agreeing_plain files map domain range }))))

  -- ---- loading

  abbrev sets_bytes : ℕ
  sets_bytes = two_bytes files.a + two_bytes files.b

  module _ (old after_map after_domain new : Seen) where
    pub map_refused : (fault : Fault) → Loads {A = Mapping} read_bytes (IsMapIn files.map) old new (Err fault) → Loads (bytes_of files) (IsPairMapIn files) old new (Err fault)
    map_refused fault h = widened {A = PairMap} read_bytes (bytes_of files) (IsPairMapIn files) old new (Err fault) (omega arith) (refused read_bytes (IsMapIn files.map) Rest old new fault h)

    behind_map : (map : Mapping) → Loads read_bytes (IsMapIn files.map) old after_map (Ok map) → (result : Result PairMap Fault) → Loads sets_bytes (λ read. Rest read map) after_map new result
        → Loads (bytes_of files) (IsPairMapIn files) old new result
    behind_map map h result k = after names read_bytes sets_bytes (IsMapIn files.map) Rest old after_map new map map_files h result k

    pub domain_refused : (map : Mapping) → Loads read_bytes (IsMapIn files.map) old after_map (Ok map) → (fault : Fault) → Loads {A = TwoSets} (two_bytes files.a) (ArePairIn files.x files.a) after_map new (Err fault)
        → Loads (bytes_of files) (IsPairMapIn files) old new (Err fault)
    domain_refused map h fault k = behind_map map h (Err fault)
        (widened {A = PairMap} (two_bytes files.a) sets_bytes (λ read. Rest read map) after_map new (Err fault) (omega arith) (refused (two_bytes files.a) (ArePairIn files.x files.a) (Later map) after_map new fault k))

    module _ (map : Mapping) (domain : TwoSets) (hm : Loads read_bytes (IsMapIn files.map) old after_map (Ok map)) (hd : Loads (two_bytes files.a) (ArePairIn files.x files.a) after_map after_domain (Ok domain)) where
      behind_domain : (result : Result PairMap Fault) → Loads (two_bytes files.b) (λ read. Later map read domain) after_domain new result → Loads (bytes_of files) (IsPairMapIn files) old new result
      behind_domain result k = behind_map map hm result (after names (two_bytes files.a) (two_bytes files.b) (ArePairIn files.x files.a) (Later map) after_map after_domain new domain domain_files hd result k)

      pub range_refused : (fault : Fault) → Loads {A = TwoSets} (two_bytes files.b) (ArePairIn files.y files.b) after_domain new (Err fault) → Loads (bytes_of files) (IsPairMapIn files) old new (Err fault)
      range_refused fault k = behind_domain (Err fault) (refused (two_bytes files.b) (ArePairIn files.y files.b) (λ read. Range map domain) after_domain new fault k)

      pub all_load : (range : TwoSets) → Loads (two_bytes files.b) (ArePairIn files.y files.b) after_domain new (Ok range) → (result : Result PairMap Fault) → IsDue (agreeing files map domain range) result
          → Loads (bytes_of files) (IsPairMapIn files) old new result
      all_load range k result due = behind_domain result (then_loads (two_bytes files.b) (ArePairIn files.y files.b) (Range map domain) after_domain new range k (agreeing_plain files map domain range) result (due_ok result due) (due_err result due))
        where
          due_ok : (r : Result PairMap Fault) → IsDue (agreeing files map domain range) r → IfOk r (λ all. Range map domain range (Ok all))
          due_ok (Ok all) h = sym h
          due_ok (Err fault) h = tt

          due_err : (r : Result PairMap Fault) → IsDue (agreeing files map domain range) r → IfErr r (λ fault. Range map domain range (Err fault) ⊎ (fault ≡ OutOfMemory))
          due_err (Ok all) h = tt
          due_err (Err fault) (inr e) = inr e
          due_err (Err fault) (inl e) = inl (sym e)
