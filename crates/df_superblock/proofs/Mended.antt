-- What a repair's events make of the copies, where the disk tells its log.
use Rattle.std.proofs.{Common.{◌≡◌, inl, inr, ◌<◌, ◌≤◌, ◌+◌, ℕ, suc, Bool, true, false, IsTrue, List, [], ◌∷◌, ◌++◌, length, get_or, Option, Some, None, refl, sym, ◌∙◌, ap, subst, arith, Result, Ok, Err, IsErr, OnOk}, lemmas.Bool.{cases_Bool}}
use Rattle.df_base.{specs.{Image.{IsImage}, Log.{Event, Write, Sync, Stop, Log, IsLog, now}, Moments.{adds}}, proofs.Laws.{now_is_image, AtEach, at_weaker, written_else}}
use Rattle.df_disk.{specs.{Told.{Told, did}, Adds.{Adds, AddsPart, after_all}}, proofs.Laws.{adds_part, part_then, all_then, passes, tells_on, adds_failed}}
use Rattle.df_format.specs.{Super.{copy_bytes}, SuperRules.{IsUsable}, declared.superblock.SuperFields.{SuperFields}, Copies.{Content, content_at, content_with}}
use Rattle.df_quorum.specs.{declared.choice.Chosen.{Chosen}, Quorum.{CopiesAgree}}
use Rattle.df_superblock.{specs.{Copies.{AreQuiet, AreEqual, IsChoice, Spare}, Events.{mend_events, repair_events}, Calls.{KeepsMembers, KeepsUnlessMisled, RepairsUnlessMisled, EndsRepaired}}, proofs.{Sights.{PutsCopy}, Mends.{Spares, Writes, member_spared, other_written, shown_stays, written_shows}, Misleads.{AreOutside, KeepsChoice, each_stays}, Puts.{copy_put, one_content}, Written.{tells_after}}}

-- ---- members

-- a copy that isn't among those that are written is spared by each write
spared : (f : SuperFields) (puts : (m : ℕ) → m < 4 → PutsCopy m (copy_bytes m f) (content_with f)) (n number : ℕ) (members : List Bool)
    → number + length members ≤ 4 → Spares n number members → Spare (repair_events f number members) n
spared f puts n number [] fits spares = tt
spared f puts n number (true ∷ members) fits spares = spared f puts n (number + 1) members (omega arith) spares
spared f puts n number (false ∷ members) fits spares =
    ((puts number (omega arith)).alone n spares.0, spared f puts n (number + 1) members (omega arith) spares.1)

-- what is shown in this sector stays
abbrev ShowsStill : ℕ → Told → Option Told → Type 0
ShowsStill n t None = ⊥
ShowsStill n t (Some u) = u.shown n ≡ t.shown n

still_from : (e : Event) (t : Told) (new : Option Told) (n : ℕ)
    → (did e t).shown n ≡ t.shown n → ShowsStill n (did e t) new → ShowsStill n t new
still_from e t None n same still = absurd still
still_from e t (Some u) n same still = still ∙ same

still_shown : (es : List Event) (t : Told) (new : Option Told) (n : ℕ) → Spare es n → AddsPart es (Some t) new → ShowsStill n t new
still_shown [] t new n spare is = subst (λ (o : Option Told). ShowsStill n t o) (sym is) refl
still_shown (e ∷ es) t new n spare (inl is) = subst (λ (o : Option Told). ShowsStill n t o) (sym is) refl
still_shown ((Write at bytes) ∷ es) t new n spare (inr is) =
    still_from (Write at bytes) t new n (written_else at bytes t.shown n spare.0) (still_shown es (did (Write at bytes) t) new n spare.1 is)
still_shown (Sync ∷ es) t new n spare (inr is) = still_from Sync t new n refl (still_shown es (did Sync t) new n spare is)
still_shown ((Stop cs) ∷ es) t new n spare (inr is) = absurd spare

member_stays : (f : SuperFields) (members : List Bool) (t u : Told) (n : ℕ) → IsUsable f
    → length members ≡ 4 → AddsPart (repair_events f 0 members) (Some t) (Some u) → IsTrue (get_or members n false) → u.shown n ≡ t.shown n
member_stays f members t u n usable size is member = let place : 0 + n ≡ n = omega arith in
    let spares : Spares n 0 members = rw place at (member_spared 0 n members member) in
    still_shown (repair_events f 0 members) t (Some u) n (spared f (copy_put f usable) n 0 members (omega arith) spares) is

pub keeps_members : {T E : Type 0} → (f : SuperFields) (members : List Bool) (old new : Option Told) (result : Result T E)
    → IsUsable f → length members ≡ 4 → Adds (repair_events f 0 members) old new result → KeepsMembers members old new
keeps_members f members None new result usable size is = tt
keeps_members f members (Some t) None result usable size is =
    absurd (tells_on (repair_events f 0 members) t (adds_part (repair_events f 0 members) (Some t) None result is))
keeps_members f members (Some t) (Some u) result usable size is =
    λ n below member. member_stays f members t u n usable size (adds_part (repair_events f 0 members) (Some t) (Some u) result is) member

-- ---- one place after the other

members_are : (members : List Bool)
    → length members ≡ 4 → members ≡ get_or members 0 false ∷ get_or members 1 false ∷ get_or members 2 false ∷ get_or members 3 false ∷ []
members_are [] size = absurd (omega arith)
members_are (a ∷ []) size = absurd (omega arith)
members_are (a ∷ b ∷ []) size = absurd (omega arith)
members_are (a ∷ b ∷ c ∷ []) size = absurd (omega arith)
members_are (a ∷ b ∷ c ∷ d ∷ []) size = refl
members_are (a ∷ b ∷ c ∷ d ∷ e ∷ members) size = absurd (omega arith)

module _ (f : SuperFields) (members : List Bool) (size : length members ≡ 4) where
  abbrev part : ℕ → List Event
  part n = mend_events f n (get_or members n false)

  -- all four parts
  abbrev parts : List Event
  parts = part 0 ++ (part 1 ++ (part 2 ++ (part 3 ++ [])))

  are_parts : repair_events f 0 members ≡ parts
  are_parts = ap (λ (ms : List Bool). repair_events f 0 ms) (members_are members size)

  module _ {T E : Type 0} (result : Result T E) (err : IsErr result) where
    some_mended : (old new : Option Told) → AddsPart parts old new → Adds (repair_events f 0 members) old new result
    some_mended old new is = adds_failed (repair_events f 0 members) old new result err (rw (sym are_parts) at is)

    pub first_fails : (old new : Option Told) → AddsPart (part 0) old new → Adds (repair_events f 0 members) old new result
    first_fails old new is = some_mended old new (part_then (part 0) _ old new is)

    pub second_fails : (old one new : Option Told)
        → one ≡ after_all (part 0) old → AddsPart (part 1) one new → Adds (repair_events f 0 members) old new result
    second_fails old one new first is = some_mended old new (all_then (part 0) _ old one new first (part_then (part 1) _ one new is))

    pub third_fails : (old one two new : Option Told) → one ≡ after_all (part 0) old
        → two ≡ after_all (part 1) one → AddsPart (part 2) two new → Adds (repair_events f 0 members) old new result
    third_fails old one two new first second is = some_mended
        old new (all_then (part 0) _ old one new first (all_then (part 1) _ one two new second (part_then (part 2) _ two new is)))

-- ---- moments, and the end

-- the fields that are written are those of the choice
pub record IsFor (f : SuperFields) (chosen : Chosen) : Type 0 where
  pub usable : IsUsable f
  pub fields : f ≡ chosen.content
  pub size : length chosen.members ≡ 4

module _ (f : SuperFields) (chosen : Chosen)
    (for : IsFor f chosen) (log : Log) (c : Content) (whole : IsLog log) (choice : IsChoice (content_at (now log)) chosen c) where
  abbrev members : List Bool
  members = chosen.members

  fits : 0 + length members ≤ 4
  fits = omega (arith, for.size)

  agreed : CopiesAgree (content_at (now log)) c
  agreed = choice.is.agreed

  same : content_with f ≡ c
  same = let image : IsImage (now log) = now_is_image log.start log.events whole.start whole.events in
      one_content (now log) agreed.first c f (image.sectors agreed.first) for.usable agreed.at_first (choice.fields ∙ sym for.fields)

  puts : (n : ℕ) → n < 4 → PutsCopy n (copy_bytes n f) c
  puts n below = subst (λ (x : Content). PutsCopy n (copy_bytes n f) x) same (copy_put f for.usable n below)

  pub equal : AreEqual (now (adds (repair_events f 0 members) log)) c
  equal n below = elim (cases_Bool (get_or members n false)) [
    | inl member ↦ shown_stays f c puts n 0 members log fits ((choice.members n below).0 member)
    | inr other ↦ let place : 0 + n ≡ n = omega arith in
        written_shows f c puts n 0 members log fits (rw place at (other_written 0 n members (omega (arith, for.size)) other))
  ]

  further : (m k : ℕ) → (content_at (now log) (m + suc k) ≡ Some c → ⊥) → content_at (now log) ((m + 1) + k) ≡ Some c → ⊥
  further m k away = let place : m + suc k ≡ (m + 1) + k = omega arith in subst (λ (j : ℕ). content_at (now log) j ≡ Some c → ⊥) place away

  -- those that are written didn't show the choice
  outside_from : (number : ℕ) (others : List Bool) → ((k : ℕ) → k < length others
      → get_or others k false ≡ false → content_at (now log) (number + k) ≡ Some c → ⊥) → AreOutside (content_at (now log)) c number others
  outside_from number [] away = tt
  outside_from number (true ∷ others) away = outside_from (number + 1) others (λ k inside is. further number k (away (suc k) (omega arith) is))
  outside_from number (false ∷ others) away = (
    let place : number + 0 ≡ number = omega arith in rw place at (away 0 (omega arith) refl),
    outside_from (number + 1) others (λ k inside is. further number k (away (suc k) (omega arith) is)),
  )

  outside : AreOutside (content_at (now log)) c 0 members
  outside = outside_from 0 members (λ k inside is shown. let place : 0 + k ≡ k = omega arith in
      let member : get_or members k false ≡ true = (choice.members k (omega (arith, for.size))).1 (rw place at shown) in
      let both : false ≡ true = sym is ∙ member in cc)

  pub unless_misled : AreQuiet log → AtEach (KeepsUnlessMisled log c) log (repair_events f 0 members)
  unless_misled quiet = at_weaker (KeepsChoice (content_at (now log)) c) (KeepsUnlessMisled log c) (λ l keeps image left not.
      keeps image left.kept not) (repair_events f 0 members) log (each_stays f c puts (content_at (now log))
      choice.is 0 members log fits (record { shown = λ n below. inr refl; firm = λ n below is. quiet n below }) outside)

pub repairs_unless_misled : {T E : Type 0} → (f : SuperFields) (chosen : Chosen) (old new : Option Told) (result : Result T E)
    → IsFor f chosen → Adds (repair_events f 0 chosen.members) old new result → RepairsUnlessMisled chosen old new
repairs_unless_misled f chosen None new result for is = tt
repairs_unless_misled f chosen (Some t) new result for is = λ c whole choice quiet. passes
    (KeepsUnlessMisled t.log c) (repair_events f 0 chosen.members) t new result (unless_misled f chosen for t.log c whole choice quiet) is

pub ends_repaired : {T E : Type 0} → (f : SuperFields) (chosen : Chosen) (old new : Option Told) (result : Result T E)
    → IsFor f chosen → Adds (repair_events f 0 chosen.members) old new result → OnOk result (EndsRepaired chosen old new)
ends_repaired f chosen None new (Ok x) for is = tt
ends_repaired f chosen (Some t) new (Ok x) for is = λ c whole choice.
    tells_after (repair_events f 0 chosen.members) t new (λ log. AreEqual (now log) c) is (equal f chosen for t.log c whole choice)
ends_repaired f chosen old new (Err e) for is = tt
