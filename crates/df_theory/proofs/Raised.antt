-- The images that an open or an upgrade leaves, their copies aside: each holds the view that was found at the start, and with the new
-- superblock the view that has it.
use Rattle.std.proofs.{Common.{◌≡◌, ◌⊎◌, inl, inr, ℕ, ◌+◌, ◌<◌, ◌≤◌, ◌%◌, List, Some, refl, sym, ◌∙◌, ap, arith}, lemmas.Bool.{cases_eq}}
use Rattle.df_theory.{specs.{Units.{AnyUnit, BlockPlace, Content, CopyPlace, CopyUnit, Header, HeaderPlace, HeaderUnit, Message, Place, PreparePlace, PrepareUnit, ReplyPlace, Units}, Shape.{Shape}, Copies.{Agree, IsChosen, rank_of}, View.{View, boot_of}, Shows.{Agrees, Needs}, Holds.{Holds}, Next.{booted}, MendLaws.{IsFromSlot}, Upgrades.{IsRaised, MayRaise, as_version, of_version}, Found.{IsFound}}, proofs.{Tails.{chain_ops}, Choices.{boot_higher, same_copy}, Grew.{Grew, agrees_grew}, Agreeing.{prepare_agrees, reply_agrees}, Images.{IsOpen, bears_open, short_clear, short_same}, BootSounds.{raise_sound}, Masked.{masked, masked_chosen, masked_holds, unmasked_found, unmasked_holds}}}

-- neither a copy nor a header
abbrev pub IsBody : Place → Type 0
IsBody (CopyPlace n) = ⊥
IsBody (HeaderPlace s) = ⊥
IsBody (PreparePlace s) = Unit {0}
IsBody (ReplyPlace k) = Unit {0}
IsBody (BlockPlace a) = Unit {0}

-- an image on the way: prepares, replies and blocks are those of its start, and each header that is shown is the one of the start or that
-- of the table
pub record IsAfter (image : Units) (table : ℕ → Header) (j : Units) : Type 0 where
  pub body : (place : Place) → IsBody place → j place ≡ image place
  pub headers : (s : ℕ) (x : AnyUnit) → j (HeaderPlace s) ≡ Some x → (image (HeaderPlace s) ≡ Some x) ⊎ (x ≡ HeaderUnit (table s))

-- what agrees doesn't depend on the version that is asked for
version_agrees : (n : ℕ) (sh : Shape) (v : View) (place : Place) (x : AnyUnit) → Agrees sh v place x → Agrees (of_version n sh) v place x
version_agrees n sh v (CopyPlace k) x a = a
version_agrees n sh v (HeaderPlace s) x a = (a.0, a.1, record { op = a.2.op; ring = a.2.ring; checkpoint = a.2.checkpoint; boot = a.2.boot; slot = a.2.slot; in_tail = a.2.in_tail })
version_agrees n sh v (PreparePlace s) x a = (a.0, a.1, record { some = a.2.some; op = a.2.op; ring = a.2.ring; checkpoint = a.2.checkpoint; boot = a.2.boot; slot = a.2.slot; in_tail = a.2.in_tail })
version_agrees n sh v (ReplyPlace k) x a = a
version_agrees n sh v (BlockPlace k) x a = a

module _ (sh : Shape) (ver : ℕ) (image : Units) (v : View) (table : ℕ → Header)
    (headers : List Units) (copies : List (ℕ × Units)) (d : Content) (may : MayRaise sh ver image v table headers copies d) where
  pub start : Holds sh (masked v.checkpoint.content image) v
  start = masked_holds sh image v may.places may.found

  -- the boot is raised
  pub boots : d.boot ≡ boot_of v + 1
  boots = may.boot.is.boot

  pub higher : rank_of v.checkpoint.content < rank_of d
  higher = boot_higher (as_version ver v) d may.boot.is

  -- a header of the table
  slot_agrees : (s : ℕ) (h : Header) → IsFromSlot sh image v s h → Agrees sh v (HeaderPlace s) (HeaderUnit h)
  slot_agrees s h (inl shown) = start.bears.agrees (HeaderPlace s) (HeaderUnit h) shown
  slot_agrees s h (inr (inl of)) = let a = start.bears.agrees (PreparePlace (of.0.header.op % sh.layout.slots)) (PrepareUnit of.0)
      (start.bears.needs (PreparePlace (of.0.header.op % sh.layout.slots)) (PrepareUnit of.0) (of.0, of.1, refl, refl)) in
      let same : a.0.header ≡ h = (let e = a.1 in let whole : a.0 ≡ of.0 = cc in ap (λ (w : Message). w.header) whole ∙ of.2) in (
        h,
        refl,
        record {
          op = λ own. let ops = chain_ops sh.layout.clients (v.checkpoint.content.op + 1) v.checkpoint.content.op_checksum 0
              v.checkpoint.parts.sessions v.tail of.0 start.bears.sound.chain of.1 in omega (arith, ops.1, ap (λ (x : Header). x.op) of.2);
          ring = rw same at a.2.ring;
          checkpoint = rw same at a.2.checkpoint;
          boot = rw same at a.2.boot;
          slot = λ above. of.3;
          in_tail = λ own above. (of.0, of.1, ap (λ (x : Header). x.op) of.2, ap (λ (x : Header). x.checksum) of.2);
        },
      )
  slot_agrees s h (inr (inr reserved)) = (h, refl, record { op = λ own. omega (arith, reserved.op); ring = omega (arith, reserved.op); checkpoint = omega (arith, reserved.checkpoint); boot = omega (arith, reserved.boot); slot = λ above. absurd (omega (arith, reserved.op)); in_tail = λ own above. absurd (omega (arith, reserved.op)) })

  -- the view of the start
  pub held : (j : Units) → IsAfter image table j → Holds sh (masked v.checkpoint.content j) v
  held j after = record {
    bears = bears_open sh v (masked v.checkpoint.content image) (masked v.checkpoint.content j) start.bears each;
    chosen = masked_chosen v.checkpoint.content j;
    short = short_same sh (masked v.checkpoint.content image) (masked v.checkpoint.content j) v (λ s.
        after.body (PreparePlace s) tt) start.short;
  }
    where
      each : (place : Place) → (masked v.checkpoint.content j place ≡ masked v.checkpoint.content image place)
          ⊎ IsOpen sh v (masked v.checkpoint.content j) place
      each (CopyPlace n) = inl refl
      each (HeaderPlace s) = inr (record {
        needless = λ x need. need;
        agrees = λ x is. elim (after.headers s x is) [
          | inl old ↦ start.bears.agrees (HeaderPlace s) x old
          | inr new ↦ rw (sym new) at (slot_agrees s (table s) (may.tells s).from)
        ];
      })
      each (PreparePlace s) = inl (after.body (PreparePlace s) tt)
      each (ReplyPlace k) = inl (after.body (ReplyPlace k) tt)
      each (BlockPlace a) = inl (after.body (BlockPlace a) tt)

  grew : Grew v (booted v d)
  grew = record {
    head = omega (arith, may.boot.is.same.op.0);
    checkpoint = inr higher;
    sequence = omega (arith, may.boot.is.same.sequence);
    boot = omega (arith, boots);
    pin = may.boot.is.records.pin_from;
    op = omega (arith, may.boot.is.same.op.0);
    replies = omega arith;
    tail = λ p at above. at;
  }

  -- what agreed agrees with the view that has the new superblock
  pub later_agrees : (place : Place) (x : AnyUnit) → Agrees sh v place x → Agrees (of_version ver sh) (booted v d) place x
  later_agrees place x a =
      version_agrees ver sh (booted v d) place x (agrees_grew sh v (booted v d) grew place x (inr (inl (omega (arith, boots)))) a)

  -- the view with the new superblock
  pub raised : (j : Units) → IsAfter image table j → Holds (of_version ver sh) (masked d j) (booted v d)
  raised j after = record {
    bears = record { sound = raise_sound sh ver v d start.bears.sound may.boot; agrees = agrees; needs = needs };
    chosen = masked_chosen d j;
    short = short_clear (of_version ver sh) (masked d j) (booted v d) (λ s p is own. absurd (omega (arith, (prepare_agrees sh (masked v.checkpoint.content j) v (held j after).bears.sound (held j after).bears.agrees s p is).boot, boots)));
  }
    where
      agrees : (place : Place) (x : AnyUnit) → masked d j place ≡ Some x → Agrees (of_version ver sh) (booted v d) place x
      agrees (CopyPlace n) x is =
          (d, (let both : Some (CopyUnit d) ≡ Some x = is in let one : CopyUnit d ≡ x = cc in sym one), λ differs. inl refl)
      agrees (HeaderPlace s) x is = later_agrees (HeaderPlace s) x ((held j after).bears.agrees (HeaderPlace s) x is)
      agrees (PreparePlace s) x is = later_agrees (PreparePlace s) x ((held j after).bears.agrees (PreparePlace s) x is)
      agrees (ReplyPlace k) x is = later_agrees (ReplyPlace k) x ((held j after).bears.agrees (ReplyPlace k) x is)
      agrees (BlockPlace a) x is = tt

      needs : (place : Place) (x : AnyUnit) → Needs (of_version ver sh) (booted v d) place x → masked d j place ≡ Some x
      needs (CopyPlace n) x need = absurd need
      needs (HeaderPlace s) x need = absurd need
      needs (PreparePlace s) x need = (held j after).bears.needs (PreparePlace s) x need
      needs (ReplyPlace k) x need = (held j after).bears.needs (ReplyPlace k) x need
      needs (BlockPlace a) x need = (held j after).bears.needs (BlockPlace a) x need

  -- what is found, by what is chosen
  pub found_old : (j : Units) → IsAfter image table j → IsChosen j v.checkpoint.content → IsFound sh j v
  found_old j after chosen = unmasked_found sh j v (held j after) chosen

  pub found_new : (j : Units) → IsAfter image table j → IsChosen j d → IsFound (of_version ver sh) j (booted v d)
  found_new j after chosen = unmasked_found (of_version ver sh) j (booted v d) (raised j after) chosen

  pub raised_new : (j : Units) → IsAfter image table j → IsChosen j d → ((n : ℕ) (x : AnyUnit)
      → j (CopyPlace n) ≡ Some x → Agrees (of_version ver sh) (booted v d) (CopyPlace n) x) → IsRaised (of_version ver sh) j (booted v d)
  raised_new j after chosen clean = record {
    holds = unmasked_holds (of_version ver sh) j (booted v d) (raised j after) chosen clean;
    prepares = λ s p is. omega (arith, (prepare_agrees sh (masked v.checkpoint.content j) v (held j after).bears.sound (held j after).bears.agrees s p is).boot, boots);
    replies = λ k r is. omega (arith, (reply_agrees sh (masked v.checkpoint.content j) v (held j after).bears.sound (held j after).bears.agrees k r is).boot, boots);
  }

-- ---- the choice while copies are restored

-- two copies of the choice stay, and each other copy shows what it showed, or the choice
module _ (i j : Units) (c : Content) (chosen : IsChosen i c) (m n : ℕ) (apart : m < n) (inside : n < 4) (i_m : i (CopyPlace m) ≡ Some (CopyUnit c)) (i_n : i (CopyPlace n) ≡ Some (CopyUnit c)) (j_m : j (CopyPlace m) ≡ Some (CopyUnit c)) (j_n : j (CopyPlace n) ≡ Some (CopyUnit c))
    (from : (k : ℕ) (e : Content) → j (CopyPlace k) ≡ Some (CopyUnit e) → (i (CopyPlace k) ≡ Some (CopyUnit e)) ⊎ (e ≡ c)) where
  agreed_before : (e : Content) → Agree j e → Agree i e ⊎ (e ≡ c)
  agreed_before e a = elim (from a.first e a.at_first) [
    | inr same ↦ inr same
    | inl one ↦ elim (from a.second e a.at_second) [
      | inr same ↦ inr same
      | inl two ↦ inl (record { first = a.first; second = a.second; apart = a.apart; inside = a.inside; at_first = one; at_second = two })
    ]
  ]

  one_at : (e : Content) (x y : ℕ) → x ≡ y → i (CopyPlace x) ≡ Some (CopyUnit e) → i (CopyPlace y) ≡ Some (CopyUnit c) → e ≡ c
  one_at e x y here at_e at_c = same_copy i y e c (ap (λ (k : ℕ). i (CopyPlace k)) (sym here) ∙ at_e) at_c

  -- two copies of another content leave two for the choice
  only_two : (e : Content) → Agree i e → (q : ℕ) → q < 4 → i (CopyPlace q) ≡ Some (CopyUnit c) → (q ≡ m → ⊥) → (q ≡ n → ⊥) → e ≡ c
  only_two e a q below at_q no_m no_n = elim (cases_eq a.first m) [
    | inl is ↦ one_at e a.first m is a.at_first i_m
    | inr f_m ↦ elim (cases_eq a.first n) [
      | inl is ↦ one_at e a.first n is a.at_first i_n
      | inr f_n ↦ elim (cases_eq a.first q) [
        | inl is ↦ one_at e a.first q is a.at_first at_q
        | inr f_q ↦ elim (cases_eq a.second m) [
          | inl is ↦ one_at e a.second m is a.at_second i_m
          | inr g_m ↦ elim (cases_eq a.second n) [
            | inl is ↦ one_at e a.second n is a.at_second i_n
            | inr g_n ↦ elim (cases_eq a.second q) [
              | inl is ↦ one_at e a.second q is a.at_second at_q
              | inr g_q ↦ absurd (omega (arith, apart, inside, below, a.apart, a.inside))
            ]
          ]
        ]
      ]
    ]
  ]

  pub chosen_restored : IsChosen j c
  chosen_restored = record {
    agreed = record { first = m; second = n; apart = apart; inside = inside; at_first = j_m; at_second = j_n };
    greatest = λ e a. elim (agreed_before e a) [ inl before ↦ chosen.greatest e before | inr same ↦ omega (arith, ap rank_of same) ];
    lowest = λ e a tie k below shown. elim (from k e shown) [
      | inr same ↦ as_choice e k shown same
      | inl at_k ↦ elim (agreed_before e a) [
        | inr same ↦ as_choice e k shown same
        | inl before ↦ lower e before k below shown (chosen.lowest e before tie k below at_k)
      ]
    ];
  }
    where
      as_choice : (e : Content) (k : ℕ)
          → j (CopyPlace k) ≡ Some (CopyUnit e) → e ≡ c → (q : ℕ) × (q ≤ k) × (j (CopyPlace q) ≡ Some (CopyUnit c))
      as_choice e k shown same = (k, omega arith, shown ∙ ap (λ (x : Content). Some (CopyUnit x)) same)

      lower : (e : Content) → Agree i e → (k : ℕ) → k < 4 → j (CopyPlace k) ≡ Some (CopyUnit e)
          → (q : ℕ) × (q ≤ k) × (i (CopyPlace q) ≡ Some (CopyUnit c)) → (q : ℕ) × (q ≤ k) × (j (CopyPlace q) ≡ Some (CopyUnit c))
      lower e before k below shown (q, to, at_q) = elim (cases_eq q m) [
        | inl is ↦ (m, omega arith, j_m)
        | inr no_m ↦ elim (cases_eq q n) [
          | inl is ↦ (n, omega arith, j_n)
          | inr no_n ↦ as_choice e k shown (only_two e before q (omega arith) at_q no_m no_n)
        ]
      ]
