-- Words ask for one thing at most.
use Rattle.std.{proofs.Common.{◌≡◌, ℕ, ◌^◌, ◌<◌, ◌≤◌, ◌+◌, ◌*◌, List, [], ◌∷◌, length, get_or, refl, sym, ap, ◌∙◌, arith}, specs.Prelude.{decimal, codes}}
use Rattle.{df_layout.specs.declared.layout.Layout.{Layout}, df_lines.proofs.Laws.{one_number}, df_pace.specs.declared.pace.Pace.{Pace}}
use Rattle.df_top.specs.{declared.mode.Mode.{Mode}, declared.mode.Mode.TheVariants.{Format, Run, Recover, Inspect, Scrub, Workload, Upgrade, Paced}, Mode.{Means, OneMeaning}}
use Rattle.df_program.{specs.Names.{NamesLayout}, proofs.Laws.{one_layout}}

-- ---- a word, and the words after it

-- three words are equal one by one
three : (f a b g c d : List ℕ) → f ∷ a ∷ b ∷ [] ≡ g ∷ c ∷ d ∷ [] → (a ≡ c) × (b ≡ d)
three f a b g c d same = (cc same, cc same)

-- and so are four
four : (f a b c g d e h : List ℕ) → f ∷ a ∷ b ∷ c ∷ [] ≡ g ∷ d ∷ e ∷ h ∷ [] → (a ≡ d) × (b ≡ e) × (c ≡ h)
four f a b c g d e h same = (cc same, cc same, cc same)

-- the first word by its first two letters, which no other word has
abbrev letters : List (List ℕ) → ℕ
letters words = let word = get_or words 0 [] in get_or word 0 0 * 256 + get_or word 1 0

abbrev letters_of : Mode → ℕ
letters_of Run = letters (codes "run" ∷ [])
letters_of Recover = letters (codes "recover" ∷ [])
letters_of Inspect = letters (codes "inspect" ∷ [])
letters_of Scrub = letters (codes "scrub" ∷ [])
letters_of Upgrade = letters (codes "upgrade" ∷ [])
letters_of (Workload s n) = letters (codes "workload" ∷ [])
letters_of (Format l c) = letters (codes "format" ∷ [])
letters_of (Paced p) = letters (codes "paced" ∷ [])

-- how many words they are
abbrev count_of : Mode → ℕ
count_of (Workload s n) = 3
count_of (Format l c) = 3
count_of (Paced p) = 4
count_of mode = 1

-- by both it is known what words ask for
known_by : (words : List (List ℕ)) (mode : Mode) → Means words mode → (length words ≡ count_of mode) × (letters words ≡ letters_of mode)
known_by words (Workload s n) says = (ap length says.is, ap letters says.is)
known_by words (Format l c) says = (ap length says.is, ap letters says.is)
known_by words (Paced p) says = (ap length says.is, ap letters says.is)
known_by words mode says = (ap length says, ap letters says)

-- ---- one meaning

same_paced : (p q : Pace) → p.scrub ≡ q.scrub → p.every ≡ q.every → p.steps ≡ q.steps → Paced p ≡ Paced q
same_paced p q scrubs everies steps = λ i. Paced (record { scrub = scrubs i; every = everies i; steps = steps i })

same_format : (l m : Layout) (c d : ℕ) → l ≡ m → c ≡ d → Format l c ≡ Format m d
same_format l m c d layouts clusters = cc (layouts, clusters)

same_workload : (s u n k : ℕ) → s ≡ u → n ≡ k → Workload s n ≡ Workload u k
same_workload s u n k seeds counts = cc (seeds, counts)

pub one_mode : OneMeaning
one_mode words Run Run one other = refl
one_mode words Recover Recover one other = refl
one_mode words Inspect Inspect one other = refl
one_mode words Scrub Scrub one other = refl
one_mode words Upgrade Upgrade one other = refl
one_mode words (Paced p) (Paced q) one other = let parts = four (codes "paced") (decimal p.scrub)
    (decimal p.every) (decimal p.steps) (codes "paced") (decimal q.scrub) (decimal q.every) (decimal q.steps) (sym one.is ∙ other.is) in
    same_paced p q (one_number p.scrub q.scrub (omega (arith, one.scrub)) (omega (arith, other.scrub)) parts.0)
    (one_number p.every q.every (omega (arith, one.every)) (omega (arith, other.every)) parts.1)
    (one_number p.steps q.steps (omega (arith, one.steps)) (omega (arith, other.steps)) parts.2)
one_mode words (Workload s n) (Workload u k) one other =
    let parts = three (codes "workload") (decimal s) (decimal n) (codes "workload") (decimal u) (decimal k) (sym one.is ∙ other.is) in
    same_workload s u n k (one_number s u (omega (arith, one.seed_fits)) (omega (arith, other.seed_fits)) parts.0)
    (one_number n k (omega (arith, one.million)) (omega (arith, other.million)) parts.1)
one_mode words (Format l c) (Format m d) one other =
    let parts = three (codes "format") one.name (decimal c) (codes "format") other.name (decimal d) (sym one.is ∙ other.is) in
    same_format l m c d (one_layout one.name l m one.names (rw (sym parts.0) at other.names))
    (one_number c d one.cluster_fits other.cluster_fits parts.1)
one_mode words mode apart one other = absurd (omega (arith, sym (known_by words mode one).1 ∙ (known_by words apart other).1))

-- ---- three words

-- one of the two words that stand before two more means them
of_three : (word one two : List ℕ) → ((s n : ℕ) → Means (word ∷ one ∷ two ∷ []) (Workload s n) → ⊥)
    → ((l : Layout) (c : ℕ) → Means (word ∷ one ∷ two ∷ []) (Format l c) → ⊥) → (mode : Mode) → Means (word ∷ one ∷ two ∷ []) mode → ⊥
of_three word one two no_workload no_format (Workload s n) says = no_workload s n says
of_three word one two no_workload no_format (Format l c) says = no_format l c says
of_three word one two no_workload no_format mode says = omega (arith, (known_by (word ∷ one ∷ two ∷ []) mode says).0)

-- after `format` they name a layout, and a cluster
pub only_format : (name cluster : List ℕ) → ((layout : Layout) (n : ℕ) → NamesLayout name layout → cluster ≡ decimal n → n < 2 ^ 128 → ⊥)
    → (mode : Mode) → Means (codes "format" ∷ name ∷ cluster ∷ []) mode → ⊥
only_format name cluster none = of_three (codes "format") name cluster
    (λ s n says. omega (arith, (known_by (codes "format" ∷ name ∷ cluster ∷ []) (Workload s n) says).1))
    (λ l c says. let parts = three (codes "format") name cluster (codes "format") says.name (decimal c) says.is in
    none l c (rw (sym parts.0) at says.names) parts.1 says.cluster_fits)

-- and after `workload` two numbers
pub only_workload : (seed count : List ℕ) → ((s n : ℕ) → seed ≡ decimal s → count ≡ decimal n → s < 2 ^ 64 → 1 ≤ n → n ≤ 1000000 → ⊥)
    → (mode : Mode) → Means (codes "workload" ∷ seed ∷ count ∷ []) mode → ⊥
only_workload seed count none = of_three (codes "workload") seed count
    (λ s n says. let parts = three (codes "workload") seed count (codes "workload") (decimal s) (decimal n) says.is in
    none s n parts.0 parts.1 says.seed_fits says.some says.million)
    (λ l c says. omega (arith, (known_by (codes "workload" ∷ seed ∷ count ∷ []) (Format l c) says).1))

-- ---- four words

-- after it stand three numbers
pub only_paced : (scrub every steps : List ℕ) → ((p : Pace) → scrub ≡ decimal p.scrub → every ≡ decimal p.every → steps ≡ decimal p.steps
    → p.scrub ≤ 64 → p.every ≤ 64 → p.steps ≤ 64 → ⊥) → (mode : Mode) → Means (codes "paced" ∷ scrub ∷ every ∷ steps ∷ []) mode → ⊥
only_paced scrub every steps none (Paced p) says =
    let parts = four (codes "paced") scrub every steps (codes "paced") (decimal p.scrub) (decimal p.every) (decimal p.steps) says.is in
    none p parts.0 parts.1 parts.2 says.scrub says.every says.steps
only_paced scrub every steps none mode says = omega (arith, (known_by (codes "paced" ∷ scrub ∷ every ∷ steps ∷ []) mode says).0)

-- ---- numbers

-- a number out of its range
pub out_of_range : (count : List ℕ) (found n : ℕ) → count ≡ decimal found → count ≡ decimal n → found < 2 ^ 64 → 1 ≤ n → n ≤ 1000000 → found ≡ n
out_of_range count found n one other fits some million = one_number found n (omega arith) (omega arith) (sym one ∙ other)

-- a number of a pace
pub past_pieces : (text : List ℕ) (found n : ℕ) → text ≡ decimal found → text ≡ decimal n → found < 2 ^ 64 → n ≤ 64 → found ≡ n
past_pieces text found n one other fits few = one_number found n (omega arith) (omega arith) (sym one ∙ other)
