-- A sample: a file of version 2 is made and opened, a prepare is appended and lost, and the file is opened again.
use Rattle.std.proofs.Common.{◌≡◌, inl, inr, ℕ, ◌+◌, ◌%◌, ◌<◌, ◌≤◌, ◌==◌, nat_lt, Bool, true, false, if◌then◌else◌, List, [], ◌∷◌, Some, None, refl, sym, ◌∙◌, subst, arith}
use Rattle.df_theory.{specs.{CopyPuts.{update_steps}, Units.{AnyUnit, Block, BlockPlace, BlockUnit, Content, CopyPlace, CopyUnit, Header, HeaderPlace, HeaderUnit, Message, Place, PreparePlace, PrepareUnit, ReplyPlace, ReplyUnit, Units}, Shape.{Shape}, Trailer.{no_parts}, View.{View}, Holds.{Holds}, Next.{MayAppend, appended}, UnitLog.{Synced, UnitLog, add, now, put_one, settled, wrote}, Chance.{Distinct}, First.{IsFirst}, Grown.{IsClear, IsSafe}, Rests.{IsGoodLog, IsQuiet, RestsOn}, Runs.{AtEach, Puts, Step, Syncs, after_steps}, MakingLaws.{blank_log}, WriterLaws.{AppendsPrepare}, TidyLaws.{IsTidy}, Found.{AreOfPlaces, IsFound, IsInRange, IsOfPlace}}, proofs.Laws.{anew_law, append_law, each_weaker, put_one_law, holds_found, low_steps, low_update, All, Shows, now_all, pools_all, all_reserved, bare, copies_of, first_of, is_first_bare, made_of, reserved, sector, shape_of, tidy_of, copies_are, grouped, header_put, may_append, may_raise, prepare_put, quiet_updated, AreTold, copies_all, distinct_of, made_all, put_all}}
use Rattle.df_history.{specs.{Histories.{InHistoryPool, InHistoryPools, IsLived, IsLivedMoment, IsSettled, MayHurtCopies, MayStart}, OpenLaws.{IsOpening}, Sample.{HistorySampleLaw}}, proofs.{Awakened.{open_lived_law}, Mendings.{each_last}, Since.{found_since_law, synced_settled}}}

abbrev pub shape : Shape
shape = shape_of 2 (λ op text. Some no_parts)

-- the superblock of each boot
abbrev pub content : ℕ → Content
content b = bare 2 1 b b

-- and of each boot that is raised after a prepare with this checksum
abbrev pub pinned : ℕ → ℕ → Content
pinned sum b = record (content b) { head = 1; pin = 1; pin_checksum = sum }

abbrev pub content_with : ℕ → Content
content_with b = if nat_lt 2 b then pinned 6 b else content b

abbrev pub first : ℕ → View
first b = first_of (content b)

is_first : IsFirst shape (first 0)
is_first = is_first_bare 2 1 0 (λ op text. Some no_parts) (omega arith) (record { one = λ is. absurd (omega arith); two = λ is. (refl, refl) })

abbrev pub made : UnitLog
made = made_of (content 0)

tidy : IsTidy shape made (first 0)
tidy = (tidy_of shape (content 0) is_first).0

-- ---- its units

abbrev pub prepare : Message
prepare = record { header = record { checksum = 5; parent = 0; client = 7; op = 1; request = 1; mark = 0; checkpoint = 1; boot = 1; group = 1; group_last = 1 }; body = [] }

-- its op anew in the second boot
abbrev pub renewed : Message
renewed = record { header = record { checksum = 6; parent = 0; client = 7; op = 1; request = 1; mark = 0; checkpoint = 1; boot = 2; group = 1; group_last = 1 }; body = [] }

-- a group of two in the first boot, and its ops anew in the second
abbrev pub lost : Message
lost = grouped 41 0 7 1 1

abbrev pub survivor : Message
survivor = grouped 42 41 8 2 1

abbrev pub anew : Message
anew = grouped 43 0 7 1 2

abbrev pub anew_last : Message
anew_last = grouped 44 43 8 2 2

abbrev prepare_with : ℕ → Message
prepare_with n = if n == 41 then lost
    else (if n == 42 then survivor else (if n == 43 then anew else (if n == 44 then anew_last else (if n == 6 then renewed else prepare))))

abbrev header_with : ℕ → Header
header_with n = if n == 41 then lost.header else (if n == 42 then survivor.header else (if n == 43 then anew.header
    else (if n == 44 then anew_last.header else (if n == 6 then renewed.header else (if n == 5 then prepare.header else reserved)))))

abbrev pub IsOurs : AnyUnit → Type 0
IsOurs (CopyUnit c) = (c ≡ content_with c.checksum) × (c.checksum < 9)
IsOurs (HeaderUnit h) = h ≡ header_with h.checksum
IsOurs (PrepareUnit p) = (p ≡ prepare_with p.header.checksum) × (p.header ≡ header_with p.header.checksum)
IsOurs (ReplyUnit r) = ⊥
IsOurs (BlockUnit b) = ⊥

told : AreTold IsOurs
told = record { contents = content_with; headers = header_with; prepares = prepare_with; replies = λ n. prepare; blocks = λ n. no_block; content = λ c is. is.0; header = λ h is. is; prepare = λ p is. is; reply = λ r none. absurd none; block = λ b none. absurd none }
  where
    no_block : Block
    no_block = record { checksum = 0; kind = 0; sequence = 0; index = 0; before = 0; before_checksum = 0; boot = 0; body = [] }

pub distinct : (x y : AnyUnit) → IsOurs x → IsOurs y → Distinct x y
distinct = distinct_of IsOurs told

pub made_ours : All IsOurs made.start made.events
made_ours = made_all IsOurs (content 0) (refl, omega arith) refl

-- logs of such units
abbrev pub AreOurs : List UnitLog → Type 0
AreOurs [] = Unit {0}
AreOurs (log ∷ logs) = All IsOurs log.start log.events × AreOurs logs

pub pools_ours : (logs : List UnitLog) → AreOurs logs → (place : Place) (x : AnyUnit) → InHistoryPools logs place x → IsOurs x
pools_ours [] ours place x none = absurd none
pools_ours (log ∷ logs) ours place x (inl here) = pools_all IsOurs log.start log.events ours.0 place x here
pools_ours (log ∷ logs) ours place x (inr older) = pools_ours logs ours.1 place x older

-- where such units may stand
pub in_range : (n : ℕ) → IsInRange (prepare_with n).header
in_range n = pick (n == 41) lost (if n == 42 then survivor else (if n == 43 then anew else (if n == 44 then anew_last else (if
    n == 6 then renewed else prepare)))) (range 41 0 7 1 1 (omega arith, omega arith, omega arith, omega arith, omega arith, omega arith))
    (pick (n == 42) survivor (if n == 43 then anew else (if n == 44 then anew_last else (if n == 6 then renewed else prepare)))
    (range 42 41 8 2 1 (omega arith, omega arith, omega arith, omega arith, omega arith, omega arith))
    (pick (n == 43) anew (if n == 44 then anew_last else (if n == 6 then renewed else prepare))
    (range 43 0 7 1 2 (omega arith, omega arith, omega arith, omega arith, omega arith, omega arith))
    (pick (n == 44) anew_last (if n == 6 then renewed else prepare) (range 44 43
    8 2 2 (omega arith, omega arith, omega arith, omega arith, omega arith, omega arith)) (pick (n == 6) renewed prepare own_renewed own))))
  where
    pick : (b : Bool) (p q : Message) → IsInRange p.header → IsInRange q.header → IsInRange (if b then p else q).header
    pick true p q one two = one
    pick false p q one two = two

    range : (sum parent client op boot : ℕ) → (sum < 50) × (parent < 50) × (0 < client) × (client < 50) × (0 < op) × (op < 50)
        → IsInRange (grouped sum parent client op boot).header
    range sum parent client op boot small = record { client = (omega (arith, small), omega (arith, small)); request = (omega arith, omega arith); op = (omega (arith, small), omega (arith, small)); checksums = (omega (arith, small), omega (arith, small)) }

    own_renewed : IsInRange renewed.header
    own_renewed = record { client = (omega arith, omega arith); request = (omega arith, omega arith); op = (omega arith, omega arith); checksums = (omega arith, omega arith) }

    own : IsInRange prepare.header
    own = record { client = (omega arith, omega arith); request = (omega arith, omega arith); op = (omega arith, omega arith); checksums = (omega arith, omega arith) }

pub of_copy : (n : ℕ) (x : AnyUnit) → IsOurs x → (c : Content) → x ≡ CopyUnit c → IsOfPlace shape (CopyPlace n) x
of_copy n x ours c is = (c, is, let low = (subst IsOurs is ours).1 in omega arith)

-- of an image with a view and nothing but such units, whose headers are reserved
pub of_places :
    (image : Units) (v : View) → Holds shape image v → Shows IsOurs image → ((s : ℕ) → image (HeaderPlace s) ≡ Some (HeaderUnit reserved))
    → ((k : ℕ) → image (ReplyPlace k) ≡ None) → ((a : ℕ) → image (BlockPlace a) ≡ None) → AreOfPlaces shape image
of_places image v holds ours headers replies blocks (CopyPlace n) x is = let a = holds.bears.agrees (CopyPlace n) x is in
    of_copy n x (ours (CopyPlace n) x is) a.0 a.1
of_places image v holds ours headers replies blocks (HeaderPlace s) x is =
    (reserved, (let both : Some (HeaderUnit reserved) ≡ Some x = sym (headers s) ∙ is in let one : x ≡ HeaderUnit reserved = cc in one), omega arith, λ some. absurd (omega arith))
of_places image v holds ours headers replies blocks (PreparePlace s) x is = let a = holds.bears.agrees (PreparePlace s) x is in
    let own : IsOurs (PrepareUnit a.0) = subst IsOurs a.1 (ours (PreparePlace s) x is) in
    (a.0, a.1, a.2.slot, rw (sym own.0) at (in_range a.0.header.checksum))
of_places image v holds ours headers replies blocks (ReplyPlace k) x is = absurd (let both : None ≡ Some x = sym (replies k) ∙ is in cc)
of_places image v holds ours headers replies blocks (BlockPlace a) x is = absurd (let both : None ≡ Some x = sym (blocks a) ∙ is in cc)

-- ---- an open of an image that holds the first view of a boot, with nothing to mend

-- the log that it begins
abbrev pub booted_of : ℕ → Units → UnitLog
booted_of b image = after_steps (update_steps (copies_of (content (b + 1)))) (record { start = image; events = [] })

-- an image of nothing but what was pooled in logs of such units
pub starts :
    (log : UnitLog) (logs : List UnitLog) (image : Units) → AreOurs (log ∷ logs) → IsSettled log
    → ((place : Place) (x : AnyUnit) → image place ≡ Some x → InHistoryPool (log ∷ logs) place x) → MayHurtCopies (now log) image
    → MayStart log logs image
starts log logs image ours settled_is pooled copies = record {
  settled_is = settled_is;
  chance = record { pooled = pooled; distinct = λ place other x y one two. distinct x y (pools_ours (log ∷ logs) ours place x one) (pools_ours (log ∷ logs) ours other y two) };
  copies = copies;
}

module _ (b : ℕ) (low : b < 8)
    (image : Units) (holds : Holds shape image (first b)) (copies : (n : ℕ) → n < 4 → image (CopyPlace n) ≡ Some (CopyUnit (content b)))
    (headers : (s : ℕ) → image (HeaderPlace s) ≡ Some (HeaderUnit reserved)) where
  pub opening : IsOpening shape image (first b) (λ s. reserved) [] [] (content (b + 1))
  opening = record {
    may_mend = record {
      rests = anew_law shape image (first b) holds;
      quiet = λ place wet. absurd (let no_unit : false ≡ true = wet in cc);
      tells = λ s. record { from = inl (headers s); tail = λ p none mine. absurd none };
      puts_headers = tt;
      agreed = record { first = 0; second = 1; apart = omega arith; inside = omega arith; at_first = copies 0 (omega arith); at_second = copies 1 (omega arith) };
      puts_copies = tt;
      each_slot = λ s below. inl (headers s);
      each_copy = λ k below. inl (copies k below);
    };
    may_boot = may_raise (first b) (b + 1) 0 [] refl (omega arith)
        (record { pin_from = (omega arith, omega arith); pin_to = omega arith; checksum = refl; answered = (omega arith, omega arith); stored = λ k r at. absurd (let both : None ≡ Some r = at in cc); unstored = λ k none. refl; spare = λ k low. refl });
  }

  pub opens :
      (log : UnitLog) (logs : List UnitLog) → IsLived shape (log ∷ logs) → MayStart log logs image → AreOfPlaces shape image
      → AtEach (IsLivedMoment shape (log ∷ logs)) (record { start = image; events = [] }) (update_steps (copies_of (content (b + 1))))
      × RestsOn shape (booted_of b image) (first (b + 1))
      × ((ss : List Step) → AtEach (IsSafe shape) (booted_of b image) ss → AtEach (IsLivedMoment shape (log ∷ logs)) (booted_of b image) ss)
  opens log logs lived may places =
      let law = open_lived_law shape log logs image (first b) lived may places (holds_found shape image (first b) holds) (λ s.
      reserved) [] [] (content (b + 1)) (copies_of (content (b + 1))) opening in (law.0, law.1, law.3)

-- after it no prepare of the new boot was settled
pub clear_of : (b : ℕ) (image : Units) → ((s : ℕ) (p : Message) → image (PreparePlace s) ≡ Some (PrepareUnit p) → p.header.boot ≡ b → p.header.op ≤ 0) → IsClear (settled (after_steps (update_steps (copies_of (content b))) (record { start = image; events = [] }))) (first b)
clear_of b image low = (low_steps b 0 (update_steps (copies_of (content b)))
    (record { start = image; events = [] }) (low_update b 0 (content b) (copies_of (content b))) (record {
      settled = λ s p at own. elim at [ inl here ↦ low s p here own | inr none ↦ absurd none ];
      shown = low;
    })).settled

-- ---- an append after it

abbrev pub append_steps : Message → List Step
append_steps p = Puts (prepare_put p) ∷ Syncs ∷ Puts (header_put p) ∷ Syncs ∷ []

pub appends_to :
    (b : ℕ) (log : UnitLog) (p : Message)
    → RestsOn shape log (first b) → IsQuiet log → IsClear (settled log) (first b) → MayAppend shape (first b) (p ∷ [])
    → AppendsPrepare shape log (first b) (appended (first b) (p ∷ [])) (prepare_put p) (header_put p)
appends_to b log p rests quiet clear may = append_law shape log (first b) p (prepare_put p)
    (header_put p) rests quiet clear may (put_one_law (PreparePlace (p.header.op % 16)) (PrepareUnit p)) (sector shape (now log) p)

pub append_ours : (p : Message) (log : UnitLog)
    → IsOurs (PrepareUnit p) → All IsOurs log.start log.events → All IsOurs log.start (after_steps (append_steps p) log).events
append_ours p log ours all = put_all IsOurs (HeaderPlace (p.header.op % 16)) (HeaderUnit p.header)
    (add Synced (wrote (prepare_put p) log)) ours.1 (put_all IsOurs (PreparePlace (p.header.op % 16)) (PrepareUnit p) log ours all)

-- ---- the first open

lived1 : IsLived shape (made ∷ [])
lived1 = inl (inl (first 0, record { fair = tidy.rests.fair; grows = tidy.rests.grows }), λ place. refl)

start1 : MayStart made [] (now made)
start1 = starts made [] (now made) (made_ours, tt)
    (synced_settled (wrote (put_one (CopyPlace 3) (CopyUnit (content 0))) (add Synced (wrote (put_one (CopyPlace 2) (CopyUnit (content 0))) (add Synced (wrote (put_one (CopyPlace 1) (CopyUnit (content 0))) (add Synced (wrote (put_one (CopyPlace 0) (CopyUnit (content 0))) (add Synced (wrote all_reserved blank_log))))))))))
    (λ place x is. inl (tidy.rests.pooled place x is)) (inl (λ n below. refl))

abbrev pub booted1 : UnitLog
booted1 = booted_of 0 (now made)

pub opened1 : RestsOn shape booted1 (first 1)
    × ((ss : List Step) → AtEach (IsSafe shape) booted1 ss → AtEach (IsLivedMoment shape (made ∷ [])) booted1 ss)
opened1 = let all = opens 0 (omega arith) (now made) tidy.rests.holds tidy.whole.copies (λ s. refl) made [] lived1 start1 (of_places
    (now made) (first 0) tidy.rests.holds (now_all IsOurs made.start made.events made_ours) (λ s. refl) (λ k. refl) (λ a. refl)) in
    (all.1, all.2)

-- ---- the append

abbrev pub second : UnitLog
second = after_steps (append_steps prepare) booted1

abbrev pub kept : View
kept = appended (first 1) (prepare ∷ [])

pub quiet1 : IsQuiet booted1
quiet1 = quiet_updated (content 1) (record { start = now made; events = [] })

pub clear1 : IsClear (settled booted1) (first 1)
clear1 = clear_of 1 (now made) (λ s p is own. absurd (let both : None ≡ Some (PrepareUnit p) = is in cc))

pub appends : AppendsPrepare shape booted1 (first 1) kept (prepare_put prepare) (header_put prepare)
appends = appends_to 1 booted1 prepare opened1.0 quiet1 clear1
    (may_append shape (first 1) (prepare ∷ []) (omega arith) (refl, refl, tt) (record { mark = refl; checkpoint = refl; boot = refl; group = refl; group_last = refl }, tt) (omega arith, omega arith, omega arith) ((refl, omega arith), tt))

pub lived2 : IsLived shape (second ∷ made ∷ [])
lived2 = (each_last (IsLivedMoment shape (made ∷ [])) (append_steps prepare) booted1 (opened1.1 (append_steps prepare) (each_weaker
    (IsGoodLog shape (first 1) kept) (IsSafe shape) (λ l good. good.safe) (append_steps prepare) booted1 appends.leads.moments))).lived

-- ---- its every trace is lost: its slots show what they showed before

abbrev pub shown : Units
shown = now booted1

pub booted1_ours : All IsOurs booted1.start booted1.events
booted1_ours = copies_all
    IsOurs (content 1) (refl, omega arith) (record { start = now made; events = [] }) (now_all IsOurs made.start made.events made_ours)

pub second_ours : All IsOurs second.start second.events
second_ours = append_ours prepare booted1 (refl, refl) booted1_ours

pub places2 : AreOfPlaces shape shown
places2 =
    of_places shown (first 1) opened1.0.holds (now_all IsOurs booted1.start booted1.events booted1_ours) (λ s. refl) (λ k. refl) (λ a. refl)

pub start2 : MayStart second (made ∷ []) shown
start2 = starts second (made ∷ []) shown (second_ours, (made_ours, tt)) (synced_settled (wrote (header_put prepare)
    (add Synced (wrote (prepare_put prepare) booted1)))) (λ place x is. inl (inl (inr (inr (inl is))))) (inl (λ n below. refl))

copies2 : (n : ℕ) → n < 4 → shown (CopyPlace n) ≡ Some (CopyUnit (content 1))
copies2 = copies_are (content 1) shown refl refl refl refl

pub opening2 : IsOpening shape shown (first 1) (λ s. reserved) [] [] (content 2)
opening2 = opening 1 (omega arith) shown opened1.0.holds copies2 (λ s. refl)

abbrev pub third : UnitLog
third = booted_of 1 shown

pub found2 : IsFound shape shown (first 1)
found2 = holds_found shape shown (first 1) opened1.0.holds

pub opened2 : RestsOn shape third (first 2) × IsLived shape (third ∷ second ∷ made ∷ [])
opened2 = let all = opens 1 (omega arith) shown opened1.0.holds copies2 (λ s. refl) second (made ∷ []) lived2 start2 places2 in
    (all.1, (each_last (IsLivedMoment shape (second ∷ made ∷ [])) (update_steps (copies_of (content 2))) (record { start = shown; events = [] }) all.0).lived)

pub history_sample_law : HistorySampleLaw
history_sample_law = record { shape = shape; made = made; second = second; kept = kept; shown = shown; found = first 1; third = third; next = first 2; lived = lived2; rests = appends.leads.rests; start = start2; finds = found2; lost = (omega arith, refl); had = found_since_law shape second (made ∷ []) shown (first 1) lived2 start2 found2; goes = opened2.1; rests_next = opened2.0; raised = (refl, refl) }
