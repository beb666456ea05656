-- An update of four equal copies, step by step.
use Rattle.std.proofs.{Common.{◌≡◌, ◌⊎◌, inl, inr, ℕ, ◌<◌, ◌≤◌, ◌+◌, ◌||◌, false, List, [], ◌∷◌, ◌++◌, Some, refl, sym, ◌∙◌, ap, arith}, lemmas.Bool.{cases_eq, cases_lt}}
use Rattle.df_base.{specs.{Image.{Image, written}, Log.{Event, Write, Sync, Stop, Log, add, loose, loose_of, now, now_of}, Moments.{Extends}}, proofs.Laws.{AtEach}}
use Rattle.df_format.specs.Copies.{Content, content_at, rank_of_copy}
use Rattle.df_quorum.{specs.Quorum.{Copies, CopiesAgree, IsChosenContent}, proofs.Laws.{same_content as same_copy, chosen_above}}
use Rattle.df_superblock.{specs.Copies.{AreQuiet, AreEqual, OfEither, Spare, IsOldOrNew}, proofs.{Choices.{shows_content}, Sights.{Keeps, PutsCopy, firm_shows, loose_wrote, seen_apart}}}

-- ---- the choice among copies of which the first i are new, the next one is any, and the others are old

pub record AreAround (copies : Copies) (old new : Content) (i : ℕ) : Type 0 where
  pub before : (n : ℕ) → n < i → n < 4 → copies n ≡ Some new
  pub behind : (n : ℕ) → i < n → n < 4 → copies n ≡ Some old

module _ (copies : Copies) (old new : Content) (i : ℕ) (less : rank_of_copy old < rank_of_copy new) (around : AreAround copies old new i) where
  -- two copies agree on one of the two alone
  one_of : (d : Content) → CopiesAgree copies d → (d ≡ new) ⊎ (d ≡ old)
  one_of d a = elim (cases_lt a.first i) [
    | inl less ↦ inl (same_copy copies a.first d new a.at_first (around.before a.first less (omega (arith, a.apart, a.inside))))
    | inr more ↦ inr (same_copy copies a.second d old a.at_second (around.behind a.second (omega (arith, a.apart)) a.inside))
  ]

  new_is_other : old ≡ new → ⊥
  new_is_other same = omega (arith, ap rank_of_copy same)

  -- copy 1 has its turn after copy 0
  zeroth : copies 1 ≡ Some new → copies 0 ≡ Some new
  zeroth one = elim (cases_lt 0 i) [
    | inl some ↦ around.before 0 some (omega arith)
    | inr none ↦ absurd (new_is_other (same_copy copies 1 old new (around.behind 1 (omega arith) (omega arith)) one))
  ]

  is_new : copies 1 ≡ Some new → IsChosenContent copies new
  is_new one = chosen_above copies new (record { first = 0; second = 1; apart = omega arith; inside = omega arith; at_first = zeroth one; at_second = one }) (λ d a. elim (one_of d a) [
    | inl same ↦ inl same
    | inr same ↦ inr (omega (arith, ap rank_of_copy same))
  ])

  -- no two copies are new as long as copy 1 isn't
  no_pair : (copies 1 ≡ Some new → ⊥) → i < 2 → CopiesAgree copies new → ⊥
  no_pair not early a = elim (cases_eq a.second 1) [
    | inl here ↦ not (ap copies (sym here) ∙ a.at_second)
    | inr there ↦ new_is_other (same_copy copies a.second old new (around.behind a.second (omega (arith, a.apart)) a.inside) a.at_second)
  ]

  pub early : (copies 1 ≡ Some new → ⊥) → i < 2
  early not = elim (cases_lt i 2) [
    | inl less ↦ less
    | inr more ↦ absurd (not (around.before 1 (omega arith) (omega arith)))
  ]

  is_old : (copies 1 ≡ Some new → ⊥) → IsChosenContent copies old
  is_old not = let less_two : i < 2 = early not in
      chosen_above copies old (record { first = 2; second = 3; apart = omega arith; inside = omega arith; at_first = around.behind 2 less_two (omega arith); at_second = around.behind 3 (omega arith) (omega arith) }) (λ d a. elim (one_of d a) [
        | inl same ↦ absurd (no_pair not less_two (rw same at a))
        | inr same ↦ inl same
      ])

-- ---- moments: the copies before i are new, those after it are old, and none of them is loose

pub record IsTurn (log : Log) (old new : Content) (i : ℕ) : Type 0 where
  pub around : AreAround (content_at (now log)) old new i
  pub firm : (n : ℕ) → (n ≡ i → ⊥) → n < 4 → loose log n ≡ false

turn_left : (log : Log) (old new : Content) (i : ℕ) (image : Image)
    → IsTurn log old new i → Keeps log image → AreAround (content_at image) old new i
turn_left log old new i image turn keeps = record {
  before = λ n less below. firm_shows log image n keeps (turn.firm n (λ e. omega arith) below) ∙ turn.around.before n less below;
  behind = λ n more below. firm_shows log image n keeps (turn.firm n (λ e. omega arith) below) ∙ turn.around.behind n more below;
}

either_chosen : (log : Log) (old new : Content) (i : ℕ) (image : Image) → rank_of_copy old < rank_of_copy new
    → IsTurn log old new i → Keeps log image → OfEither image old new (IsChosenContent (content_at image))
either_chosen log old new i image less turn keeps = let around = turn_left log old new i image turn keeps in
    elim (shows_content (content_at image 1) new) [
      | inl shown ↦ inl (shown, is_new (content_at image) old new i less around shown)
      | inr not ↦ inr (not, is_old (content_at image) old new i less around not)
    ]

-- ---- as long as copy 1 isn't written

spare_firm : (since es : List Event) (n : ℕ) → Spare since n → loose_of es n ≡ false → loose_of (since ++ es) n ≡ false
spare_firm [] es n spare firm = firm
spare_firm ((Write at bytes) ∷ since) es n spare firm = λ i. spare.0 i || spare_firm since es n spare.1 firm i
spare_firm (Sync ∷ since) es n spare firm = refl
spare_firm ((Stop cs) ∷ since) es n spare firm = absurd spare

spare_shows : (start : Image) (since es : List Event) (n : ℕ)
    → Spare since n → content_at (now_of start (since ++ es)) n ≡ content_at (now_of start es) n
spare_shows start [] es n spare = refl
spare_shows start ((Write at bytes) ∷ since) es n spare =
    seen_apart at bytes (now_of start (since ++ es)) n spare.0 ∙ spare_shows start since es n spare.1
spare_shows start (Sync ∷ since) es n spare = spare_shows start since es n spare
spare_shows start ((Stop cs) ∷ since) es n spare = absurd spare

-- a place that isn't written shows in each image left what it showed at first
spared : (entry log : Log) (since : Extends log entry) (n : ℕ) (image : Image)
    → Spare since.0 n → loose entry n ≡ false → Keeps log image → content_at image n ≡ content_at (now entry) n
spared entry log since n image spare firm keeps =
    firm_shows log image n keeps (ap (λ (es : List Event). loose_of es n) since.1 ∙ spare_firm since.0 entry.events n spare firm)
    ∙ ap (λ (es : List Event). content_at (now_of log.start es) n) since.1
    ∙ ap (λ (start : Image). content_at (now_of start (since.0 ++ entry.events)) n) since.2
    ∙ spare_shows entry.start since.0 entry.events n spare

pub turn_moment : (entry log : Log) (old new : Content) (i : ℕ)
    → rank_of_copy old < rank_of_copy new → AreQuiet entry → AreEqual (now entry) old → IsTurn log old new i → IsOldOrNew entry old new log
turn_moment entry log old new i less quiet equal turn = record {
  left = λ image left. either_chosen log old new i image less turn left.kept;
  first = λ since spare image left. let shown : content_at image 1 ≡ Some old =
      spared entry log since 1 image spare (quiet 1 (omega arith)) left.kept ∙ equal 1 (omega arith) in
      is_old (content_at image) old new i less (turn_left log old new i image turn left.kept) (λ both.
      omega (arith, ap rank_of_copy (same_copy (content_at image) 1 old new shown both)));
}

-- ---- from one turn to the next

-- the first i copies are new, the others old, and nothing of them is loose
pub record IsAt (log : Log) (old new : Content) (i : ℕ) : Type 0 where
  pub before : (n : ℕ) → n < i → n < 4 → content_at (now log) n ≡ Some new
  pub behind : (n : ℕ) → i ≤ n → n < 4 → content_at (now log) n ≡ Some old
  pub quiet : AreQuiet log

pub at_turn : (log : Log) (old new : Content) (i : ℕ) → IsAt log old new i → IsTurn log old new i
at_turn log old new i at = record {
  around = record { before = at.before; behind = λ n more below. at.behind n (omega arith) below };
  firm = λ n away below. at.quiet n below;
}

module _ (log : Log) (old new : Content) (i : ℕ) (bytes : List ℕ) (put : PutsCopy i bytes new) (at : IsAt log old new i) where
  stays : (n : ℕ) → (n ≡ i → ⊥) → content_at (written i bytes (now log)) n ≡ content_at (now log) n
  stays n away = seen_apart i bytes (now log) n (put.alone n away)

  pub wrote_turn : IsTurn (add (Write i bytes) log) old new i
  wrote_turn = record {
    around = record {
      before = λ n less below. stays n (λ e. omega arith) ∙ at.before n less below;
      behind = λ n more below. stays n (λ e. omega arith) ∙ at.behind n (omega arith) below;
    };
    firm = λ n away below. loose_wrote log i n bytes new put away (at.quiet n below);
  }

  pub synced_at : IsAt (add Sync (add (Write i bytes) log)) old new (i + 1)
  synced_at = record {
    before = λ n less below. elim (cases_eq n i) [
      | inl here ↦ ap (λ (m : ℕ). content_at (written i bytes (now log)) m) here ∙ put.shows (now log)
      | inr away ↦ stays n away ∙ at.before n (omega arith) below
    ];
    behind = λ n more below. stays n (λ e. omega arith) ∙ at.behind n (omega arith) below;
    quiet = λ n below. refl;
  }

-- ---- the eight events

module _ (P : Log → Type 0) (At : Log → ℕ → Type 0) (bytes : ℕ → List ℕ) (here : (log : Log) (i : ℕ) → At log i → P log)
    (wrote : (log : Log) (i : ℕ) → i < 4 → At log i → P (add (Write i (bytes i)) log))
    (synced : (log : Log) (i : ℕ) → i < 4 → At log i → At (add Sync (add (Write i (bytes i)) log)) (i + 1)) where
  abbrev one_more : ℕ → Log → Log
  one_more i log = add Sync (add (Write i (bytes i)) log)

  pub each_turn : (log : Log) → At log 0
      → AtEach P log (Write 0 (bytes 0) ∷ Sync ∷ Write 1 (bytes 1) ∷ Sync ∷ Write 2 (bytes 2) ∷ Sync ∷ Write 3 (bytes 3) ∷ Sync ∷ [])
  each_turn log at = let l1 : Log = one_more 0 log in let l2 : Log = one_more 1 l1 in let l3 : Log = one_more 2 l2 in
      let at1 : At l1 1 = synced log 0 (omega arith) at in let at2 : At l2 2 = synced l1 1 (omega arith) at1 in
      let at3 : At l3 3 = synced l2 2 (omega arith) at2 in let at4 : At (one_more 3 l3) 4 = synced l3 3 (omega arith) at3 in
      (here log 0 at, (wrote log 0 (omega arith) at, (here l1 1 at1, (wrote l1 1 (omega arith) at1, (here l2 2 at2, (wrote l2 2 (omega arith) at2, (here l3 3 at3, (wrote l3 3 (omega arith) at3, here (one_more 3 l3) 4 at4))))))))
