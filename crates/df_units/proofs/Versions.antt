-- What the two versions of a superblock and of a header mean, and that contents of either can be told apart.
use Rattle.std.{proofs.{Common.{inl, inr, ◌≡◌, ◌≢◌, ◌⊎◌, ◌≤◌, ◌<◌, ◌+◌, ◌-◌, ◌==◌, ℕ, zero, suc, List, [], ◌∷◌, ◌++◌, true, false, length, drop, get_or, cond, refl, sym, ◌∙◌, ap, arith}, lemmas.Bool.{and_from, and_parts, cases_Bool, cond-true, cond-false, cases_lt, eq-eqb, eqb-true, ne_eqb}, lemmas.List.{ext_get_or, get_or-drop, get_or-map, get_or_append_left, get_or_past, length-append, length-drop, length-map, length-replicate}}, specs.Prelude.{All, map, slice_index}}
use Rattle.{df_base.proofs.Laws.{same_front}, df_theory.specs.Units.{IsAlone}}
use Rattle.df_format.{specs.{declared.header.Header.{Header}, declared.kind.Kind.{Kind}, declared.kind.Kind.TheVariants.{Reserved, Prepare, Reply, Block, Trailer}, declared.superblock.SuperFields.{SuperFields}, Spelling.{IsCheck, no_checksum}, Rules.{HasBoot, ObeysVersion}, Super.{AreNone, no_checksums}}, proofs.Laws.{no_names}}
use Rattle.df_units.{specs.Meaning.{are_zeros, header_of, number_of, number_or, or_nothing}, proofs.Numbers.{no_number, one_number}}

-- ---- headers

or_other : (n other : ℕ) → n ≡ 0 → number_or n other ≡ other
or_other n other none = cond-true (n == 0) other n (eq-eqb n 0 none)

ungrouped : (h : Header) → h.group ≡ 0 → h.group_last ≡ 0 → IsAlone (header_of h)
ungrouped h first last = record { first = or_other h.group h.op first; last = or_other h.group_last h.op last }

-- without a boot a unit is a group by itself
pub first_alone : (kind : Kind) (h : Header) → ObeysVersion kind h → (kind ≢ Reserved) → h.boot ≡ 0 → IsAlone (header_of h)
first_alone kind h is other none = elim is [
  | inl first ↦ ungrouped h first.group first.group_last
  | inr second ↦ absurd (no_second kind h.boot other none second.boot)
]
  where
    no_second : (kind : Kind) (boot : ℕ) → kind ≢ Reserved → boot ≡ 0 → HasBoot kind boot → ⊥
    no_second Reserved boot other none is = other refl
    no_second Prepare boot other none is = omega (arith, none, is.0)
    no_second Reply boot other none is = omega (arith, none, is.0)
    no_second Block boot other none is = omega (arith, none, is.0)
    no_second Trailer boot other none is = omega (arith, none, is.0)

-- and a reply is in either version
pub reply_alone : (h : Header) → ObeysVersion Reply h → IsAlone (header_of h)
reply_alone h is = elim
    is [ inl first ↦ ungrouped h first.group first.group_last | inr second ↦ ungrouped h second.group.none_first second.group.none_last ]

-- ---- superblocks

-- what version 2 says
pub by_second : {A : Type 0} (f : SuperFields) (second other : A) → f.version ≡ 2 → cond (f.version == 2) second other ≡ second
by_second f second other is = cond-true (f.version == 2) second other (eq-eqb f.version 2 is)

-- and what any other does
pub by_other : {A : Type 0} (f : SuperFields) (second other : A) → f.version ≢ 2 → cond (f.version == 2) second other ≡ other
by_other f second other is = cond-false (f.version == 2) second other (ne_eqb f.version 2 is)

-- the numbers of checksums of which none is named
pub none_zero : (checks : List (List ℕ)) → AreNone checks → (k : ℕ) → slice_index (map number_of checks) k ≡ 0
none_zero checks none k = elim (cases_lt k (length checks)) [
  | inl inside ↦ get_or-map number_of checks k [] 0 inside ∙ ap number_of (none k [] inside) ∙ no_number
  | inr past ↦ get_or_past (map number_of checks) k 0 (omega (arith, past, length-map checks number_of))
]

-- and of those from a place on
pub spare_zero : (checks : List (List ℕ)) (clients k : ℕ)
    → AreNone (drop clients checks) → clients ≤ k → slice_index (map number_of checks) k ≡ 0
spare_zero checks clients k none from = elim (cases_lt k (length checks)) [
  | inl inside ↦ let there : clients + (k - clients) ≡ k = omega (arith, from) in let one : get_or checks k [] ≡ no_checksum =
      ap (λ (m : ℕ). get_or checks m []) (sym there) ∙ sym (get_or-drop clients checks (k - clients) [])
      ∙ none (k - clients) [] (omega (arith, inside, from, length-drop clients checks)) in
      get_or-map number_of checks k [] 0 inside ∙ ap number_of one ∙ no_number
  | inr past ↦ get_or_past (map number_of checks) k 0 (omega (arith, past, length-map checks number_of))
]

-- ---- lists

cons_same : (x y : ℕ) (xs ys : List ℕ) → x ∷ xs ≡ y ∷ ys → (x ≡ y) × (xs ≡ ys)
cons_same x y xs ys same = (cc, cc)

-- ---- numbers that are zeros

pub zeros_are : (ns : List ℕ) → are_zeros ns ≡ true → (k : ℕ) → slice_index ns k ≡ 0
zeros_are [] are k = refl
zeros_are (n ∷ ns) are zero = eqb-true n 0 (and_parts (n == 0) (are_zeros ns) are).0
zeros_are (n ∷ ns) are (suc k) = zeros_are ns (and_parts (n == 0) (are_zeros ns) are).1 k

pub are_zeros_of : (ns : List ℕ) → ((k : ℕ) → slice_index ns k ≡ 0) → are_zeros ns ≡ true
are_zeros_of [] zeros = refl
are_zeros_of (n ∷ ns) zeros = and_from (n == 0) (are_zeros ns) (eq-eqb n 0 (zeros 0)) (are_zeros_of ns (λ k. zeros (suc k)))

one_zeros : (xs ys : List ℕ) → length xs ≡ length ys → are_zeros xs ≡ true → are_zeros ys ≡ true → xs ≡ ys
one_zeros xs ys size none nothing = ext_get_or 0 xs ys size (λ k inside. zeros_are xs none k ∙ sym (zeros_are ys nothing k))

pub nothing : (ns : List ℕ) → are_zeros ns ≡ true → or_nothing ns ≡ []
nothing ns are = cond-true (are_zeros ns) [] ns are

something : (ns : List ℕ) → are_zeros ns ≡ false → or_nothing ns ≡ ns
something ns are = cond-false (are_zeros ns) [] ns are

-- zeros are there or not: with others after them they are told apart from lists of their length
pub named_or_nothing : (xs ys behind after : List ℕ) → length xs ≡ length ys
    → length behind < length ys → length after < length xs → or_nothing xs ++ behind ≡ or_nothing ys ++ after → (xs ≡ ys) × (behind ≡ after)
named_or_nothing xs ys behind after size few less same = by (cases_Bool (are_zeros xs)) (cases_Bool (are_zeros ys))
  where
    short : (ws more rest : List ℕ) → length more < length ws → more ≡ ws ++ rest → ⊥
    short ws more rest few is = omega (arith, few, ap length is, length-append ws rest)

    by : (are_zeros xs ≡ true) ⊎ (are_zeros xs ≡ false) → (are_zeros ys ≡ true) ⊎ (are_zeros ys ≡ false) → (xs ≡ ys) × (behind ≡ after)
    by (inl none) (inl no_other) = (one_zeros xs ys size none no_other, ap (λ (l : List ℕ). l ++ behind) (sym (nothing xs none)) ∙ same ∙ ap (λ (l : List ℕ). l ++ after) (nothing ys no_other))
    by (inl none) (inr other) = absurd (short ys behind
        after few (ap (λ (l : List ℕ). l ++ behind) (sym (nothing xs none)) ∙ same ∙ ap (λ (l : List ℕ). l ++ after) (something ys other)))
    by (inr some) (inl no_other) = absurd (short xs after behind less
        (ap (λ (l : List ℕ). l ++ after) (sym (nothing ys no_other)) ∙ sym same ∙ ap (λ (l : List ℕ). l ++ behind) (something xs some)))
    by (inr some) (inr other) = same_front xs ys behind after
        size (ap (λ (l : List ℕ). l ++ behind) (sym (something xs some)) ∙ same ∙ ap (λ (l : List ℕ). l ++ after) (something ys other))

-- where all that is there is zeros, so are these
pub named_zeros : (ns behind : List ℕ) → ((k : ℕ) → slice_index (or_nothing ns ++ behind) k ≡ 0) → are_zeros ns ≡ true
named_zeros ns behind zeros = elim (cases_Bool (are_zeros ns)) [ inl none ↦ none | inr some ↦ are_zeros_of ns (each some) ]
  where
    each : are_zeros ns ≡ false → (k : ℕ) → slice_index ns k ≡ 0
    each some k = elim (cases_lt k (length ns)) [
      | inl inside ↦ sym (get_or_append_left ns behind 0 k inside)
          ∙ ap (λ (l : List ℕ). slice_index (l ++ behind) k) (sym (something ns some)) ∙ zeros k
      | inr past ↦ get_or_past ns k 0 past
    ]

-- checksums are told apart by their numbers
pub checks_same : (xs ys : List (List ℕ))
    → All IsCheck xs → All IsCheck ys → length xs ≡ length ys → map number_of xs ≡ map number_of ys → xs ≡ ys
checks_same [] [] one two size same = refl
checks_same [] (y ∷ ys) one two size same = absurd (omega (arith, size))
checks_same (x ∷ xs) [] one two size same = absurd (omega (arith, size))
checks_same (x ∷ xs) (y ∷ ys) one two size same =
    let both = cons_same (number_of x) (number_of y) (map number_of xs) (map number_of ys) same in
    let first : x ≡ y = one_number x y (one 0 x (omega arith)) (two 0 y (omega arith)) both.0 in
    let rest = checks_same xs ys (λ k past inside.
    one (suc k) past (omega arith)) (λ k past inside. two (suc k) past (omega arith)) (omega (arith, size)) both.1 in λ i. first i ∷ rest i

-- checksums of which none is named are zeros for each place
pub none_are : (checks : List (List ℕ)) → length checks ≡ 64 → AreNone checks → checks ≡ no_checksums
unfolding no_checksums
none_are checks size none = let count = length-replicate {A = List ℕ} 64 no_checksum in
    ext_get_or [] checks no_checksums (size ∙ sym count) (λ k inside.
    none k [] inside ∙ sym (no_names k [] (omega (arith, inside, size, count))))
