-- A start that shows a newer copy 1, to which a repair is misled much later.
use Rattle.std.proofs.Common.{◌≡◌, ◌⊎◌, inl, inr, ℕ, ◌<◌, ◌==◌, if◌then◌else◌, false, List, [], ◌∷◌, Some, None, refl, sym, ◌∙◌, ap, arith}
use Rattle.df_theory.{specs.{Units.{CopyPlace, HeaderPlace, PreparePlace, ReplyPlace, BlockPlace, Layout, Content, CopyUnit, Units}, Copies.{rank_of, IsNextContent, Agree, IsChosen}, UnitLog.{UnitLog, Synced, Stopped, add, now, loose, wrote, put_one}, Chance.{InImages}}, proofs.Laws.{same_copy, chosen_above, put_one_law, four}}
use Rattle.df_superblock.specs.Misleading.{GrowFrom, KnowsCopies, MayLeaveCopies, MisleadsLaw}

abbrev layout : Layout
layout = record { slots = 16; message_size = 4096; clients = 4; block_size = 4096; blocks = 1024 }

abbrev content : ℕ → ℕ → Content
content s h = record { checksum = h; version = 1; cluster = 3; layout = layout; sequence = s; boot = 0; op = 0; op_checksum = 0; head = h; replies = 0; pin = 0; pin_checksum = 0; answered = 0; reply_checksums = []; trailer = 0; trailer_checksum = 0; trailer_size = 0; rest = [] }

abbrev first : Content
first = content 1 0

abbrev again : Content
again = content 2 0

abbrev third : Content
third = content 2 1

-- copies 0 and 1 show these, copies 2 and 3 the first content
abbrev copies : Content → Content → Units
copies a b (CopyPlace n) = if n == 0 then Some (CopyUnit a) else (if n == 1 then Some (CopyUnit b) else Some (CopyUnit first))
copies a b (HeaderPlace s) = None
copies a b (PreparePlace s) = None
copies a b (ReplyPlace k) = None
copies a b (BlockPlace k) = None

abbrev put : ℕ → Content → Units
put n c = put_one (CopyPlace n) (CopyUnit c)

abbrev done : ℕ → Content → UnitLog → UnitLog
done n c log = add Synced (wrote (put n c) log)

-- copy 1 shows a newer content
abbrev log0 : UnitLog
log0 = record { start = copies first again; events = [] }

-- it is mended; made again as far as copy 0, and mended; another update gets as far as copy 1, torn there
abbrev log1 : UnitLog
log1 = done 1 first log0

abbrev log2 : UnitLog
log2 = done 0 again log1

abbrev log3 : UnitLog
log3 = done 0 first log2

abbrev log4 : UnitLog
log4 = done 0 third log3

abbrev torn : Units
torn = copies third again

abbrev log5 : UnitLog
log5 = add (Stopped torn) (wrote (put 1 third) log4)

-- what the repair of copy 0 may leave
abbrev bad : Units
bad = copies again again

low : (a : Content) → a ≡ first → rank_of a < rank_of again
low a same = omega (arith, ap rank_of same)

-- copies 2 and 3 show the first content, and copies 0 and 1 don't agree on another
chosen_first : (image : Units) → image (CopyPlace 2) ≡ Some (CopyUnit first) → image (CopyPlace 3) ≡ Some (CopyUnit first)
    → ((d : Content) → image (CopyPlace 0) ≡ Some (CopyUnit d) → image (CopyPlace 1) ≡ Some (CopyUnit d) → d ≡ first) → IsChosen image first
chosen_first image two three pair = chosen_above image first
    (record { first = 2; second = 3; apart = omega arith; inside = omega arith; at_first = two; at_second = three }) (λ d a. inl (go d a))
  where
    at : (d : Content) (n k : ℕ) → n ≡ k → image (CopyPlace n) ≡ Some (CopyUnit d) → image (CopyPlace k) ≡ Some (CopyUnit d)
    at d n k e shown = ap (λ (i : ℕ). image (CopyPlace i)) (sym e) ∙ shown

    go : (d : Content) → Agree image d → d ≡ first
    go d a = elim (four a.second a.inside) [
      | inl is ↦ absurd (omega (arith, a.apart))
      | inr (inl is) ↦ pair d (at d a.first 0 (omega (arith, a.apart)) a.at_first) (at d a.second 1 is a.at_second)
      | inr (inr (inl is)) ↦ same_copy image 2 d first (at d a.second 2 is a.at_second) two
      | inr (inr (inr is)) ↦ same_copy image 3 d first (at d a.second 3 is a.at_second) three
    ]

content_of : (c d : Content) → Some (CopyUnit c) ≡ Some (CopyUnit d) → d ≡ c
content_of c d e = cc

differ : (m n : ℕ) → m ≡ n → n < m → ⊥
differ m n same less = omega arith

two_heads : (d : Content) → d ≡ third → d ≡ again → ⊥
two_heads d a b = differ 1 0 (sym (ap (λ (c : Content). c.head) a) ∙ ap (λ (c : Content). c.head) b) (omega arith)

-- an image as it usually is: copies 1 to 3 show the first content
module _ (base : List Units) (image : Units) (x : Content)
    (next : IsNextContent first x) (zeroth : (image (CopyPlace 0) ≡ Some (CopyUnit x)) ⊎ (image (CopyPlace 0) ≡ Some (CopyUnit first)))
    (one : image (CopyPlace 1) ≡ Some (CopyUnit first))
    (two : image (CopyPlace 2) ≡ Some (CopyUnit first)) (three : image (CopyPlace 3) ≡ Some (CopyUnit first)) where
  usual : (n : ℕ) (d : Content) → n < 4 → image (CopyPlace n) ≡ Some (CopyUnit d)
      → InImages base (CopyPlace n) (CopyUnit d) ⊎ ((d ≡ first) ⊎ ((n ≡ 0) × IsNextContent first d))
  usual n d below shown = elim (four n below) [
    | inl is ↦ elim zeroth [
      | inl z ↦ inr (inr (is, rw (sym (content_of x d (sym z ∙ at 0 is))) at next))
      | inr z ↦ inr (inl (content_of first d (sym z ∙ at 0 is)))
    ]
    | inr (inl is) ↦ inr (inl (content_of first d (sym one ∙ at 1 is)))
    | inr (inr (inl is)) ↦ inr (inl (content_of first d (sym two ∙ at 2 is)))
    | inr (inr (inr is)) ↦ inr (inl (content_of first d (sym three ∙ at 3 is)))
  ]
    where
      at : (k : ℕ) → n ≡ k → image (CopyPlace k) ≡ Some (CopyUnit d)
      at k e = ap (λ (i : ℕ). image (CopyPlace i)) (sym e) ∙ shown

  usual_chosen : IsChosen image first
  usual_chosen = chosen_first image two three (λ d a b. content_of first d (sym one ∙ b))

torn_known : (n : ℕ) (d : Content) → n < 4 → torn (CopyPlace n) ≡ Some (CopyUnit d) → InImages (now log4
    ∷ now log3 ∷ now log2 ∷ now log1 ∷ log0.start ∷ []) (CopyPlace n) (CopyUnit d) ⊎ ((d ≡ first) ⊎ ((n ≡ 0) × IsNextContent first d))
torn_known n d below shown = elim (four n below) [
  | inl is ↦ inr (inr (is, rw ((content_of third d (at 0 is))) (inl (refl, refl))))
  | inr (inl is) ↦ inl (inr (inr (inr (inr
      (inl (ap (λ (i : ℕ). log0.start (CopyPlace i)) is ∙ ap (λ (c : Content). Some (CopyUnit c)) (content_of d again (sym (at 1 is)))))))))
  | inr (inr (inl is)) ↦ inr (inl (content_of first d (at 2 is)))
  | inr (inr (inr is)) ↦ inr (inl (content_of first d (at 3 is)))
]
  where
    at : (k : ℕ) → n ≡ k → torn (CopyPlace k) ≡ Some (CopyUnit d)
    at k e = ap (λ (i : ℕ). torn (CopyPlace i)) (sym e) ∙ shown

torn_chosen : IsChosen torn first
torn_chosen = chosen_first torn refl refl (λ d a b. absurd (two_heads d (content_of third d a) (content_of again d b)))

grew : GrowFrom (log0.start ∷ []) first (torn ∷ now log4 ∷ now log3 ∷ now log2 ∷ now log1 ∷ []) first
grew = (
  torn_chosen,
  (first, (grew4, (inl refl, torn_known))),
)
  where
    grew1 : GrowFrom (log0.start ∷ []) first (now log1 ∷ []) first
    grew1 = (usual_chosen (log0.start ∷ []) (now log1) third (inl (refl, refl)) (inr refl) refl refl refl, (first, (refl, (inl refl, usual (log0.start ∷ []) (now log1) third (inl (refl, refl)) (inr refl) refl refl refl))))

    grew2 : GrowFrom (log0.start ∷ []) first (now log2 ∷ now log1 ∷ []) first
    grew2 = (usual_chosen (log0.start ∷ []) (now log2) again (inl (refl, refl)) (inl refl) refl refl refl, (first, (grew1, (inl refl, usual (now log1 ∷ log0.start ∷ []) (now log2) again (inl (refl, refl)) (inl refl) refl refl refl))))

    grew3 : GrowFrom (log0.start ∷ []) first (now log3 ∷ now log2 ∷ now log1 ∷ []) first
    grew3 = (usual_chosen (log0.start ∷ []) (now log3) third (inl (refl, refl)) (inr refl) refl refl refl, (first, (grew2, (inl refl, usual (now log2 ∷ now log1 ∷ log0.start ∷ []) (now log3) third (inl (refl, refl)) (inr refl) refl refl refl))))

    grew4 : GrowFrom (log0.start ∷ []) first (now log4 ∷ now log3 ∷ now log2 ∷ now log1 ∷ []) first
    grew4 = (usual_chosen (log0.start ∷ []) (now log4) third (inl (refl, refl)) (inl refl) refl refl refl, (first, (grew3, (inl refl, usual (now log3 ∷ now log2 ∷ now log1 ∷ log0.start ∷ []) (now log4) third (inl (refl, refl)) (inl refl) refl refl refl))))

bad_left : MayLeaveCopies (wrote (put 0 first) log5) bad
bad_left n below firm = elim (four n below) [
  | inl is ↦ absurd (let wet : loose (wrote (put 0 first) log5) (CopyPlace 0) ≡ false = ap (λ (i : ℕ).
      loose (wrote (put 0 first) log5) (CopyPlace i)) (sym is) ∙ firm in cc)
  | inr (inl is) ↦ rw is refl
  | inr (inr (inl is)) ↦ rw is refl
  | inr (inr (inr is)) ↦ rw is refl
]

bad_known : KnowsCopies (wrote (put 0 first) log5) bad
bad_known n d below shown = elim (four n below) [
  | inl is ↦ inl (inr (inr (inr (inl (ap (λ (i : ℕ). now log2 (CopyPlace i)) is ∙ at 0 is)))))
  | inr (inl is) ↦ inl (inl (ap (λ (i : ℕ). torn (CopyPlace i)) is ∙ at 1 is))
  | inr (inr (inl is)) ↦ inl (inl (ap (λ (i : ℕ). torn (CopyPlace i)) is ∙ at 2 is))
  | inr (inr (inr is)) ↦ inl (inl (ap (λ (i : ℕ). torn (CopyPlace i)) is ∙ at 3 is))
]
  where
    at : (k : ℕ) → n ≡ k → bad (CopyPlace k) ≡ Some (CopyUnit d)
    at k e = ap (λ (i : ℕ). bad (CopyPlace i)) (sym e) ∙ shown

bad_chosen : IsChosen bad again
bad_chosen = chosen_above bad
    again (record { first = 0; second = 1; apart = omega arith; inside = omega arith; at_first = refl; at_second = refl }) (λ d a. go d a)
  where
    go : (d : Content) → Agree bad d → (d ≡ again) ⊎ (rank_of d < rank_of again)
    go d a = elim (four a.second a.inside) [
      | inl is ↦ absurd (omega (arith, a.apart))
      | inr (inl is) ↦ inl (content_of again d (ap (λ (i : ℕ). bad (CopyPlace i)) (sym is) ∙ a.at_second))
      | inr (inr (inl is)) ↦ inr (low d (content_of first d (ap (λ (i : ℕ). bad (CopyPlace i)) (sym is) ∙ a.at_second)))
      | inr (inr (inr is)) ↦ inr (low d (content_of first d (ap (λ (i : ℕ). bad (CopyPlace i)) (sym is) ∙ a.at_second)))
    ]

pub misleads_law : MisleadsLaw
misleads_law = record {
  log = log5;
  first = first;
  c = first;
  d = again;
  later = torn ∷ now log4 ∷ now log3 ∷ now log2 ∷ now log1 ∷ [];
  put = put 0 first;
  image = bad;
  history = refl;
  began = chosen_first log0.start refl refl (λ d a b. content_of first d a);
  grew = grew;
  idle = record { dry = λ n below. refl; idle = λ n d below none. none };
  chosen = torn_chosen;
  outside = λ same. differ 1 0 (ap (λ (c : Content). c.head) (content_of first third (sym same))) (omega arith);
  one = put_one_law (CopyPlace 0) (CopyUnit first);
  left = bad_left;
  known = bad_known;
  other = bad_chosen;
  differs = λ same. differ 2 1 (ap (λ (c : Content). c.sequence) same) (omega arith);
}
