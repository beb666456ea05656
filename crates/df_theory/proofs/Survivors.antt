-- A file with boots, stopped within a group of two: the second one survives, the boot is raised, and its op is written anew.
use Rattle.std.proofs.{Common.{◌≡◌, inl, inr, ℕ, ◌+◌, ◌%◌, ◌<◌, ◌==◌, true, false, if◌then◌else◌, List, [], ◌∷◌, Some, None, refl, sym, ap, arith}, lemmas.Bool.{cases_eq}, lemmas.Bool.Decides.{nat_tests}}
use Rattle.df_theory.{specs.{Units.{AnyUnit, BlockUnit, Content, CopyUnit, Header, HeaderPlace, HeaderUnit, Message, PreparePlace, PrepareUnit, ReplyUnit, Units}, Shape.{Shape}, Trailer.{no_parts}, View.{View}, Holds.{Holds, IsWhole}, Next.{MayAppend, MayBoot, appended}, First.{IsFirst}, UnitLog.{IsLeftBy, Stopped, Synced, UnitLog, add, loose, now, put_one, wrote}, Chance.{NoChance}, Rests.{IsGoodLog, RestsOn}, Runs.{Command, after_steps}, MendLaws.{AllPutTable, Reaches}, WriterLaws.{AreSame}, TidyLaws.{IsTidy, LeadsTidily}, GroupLaws.{IsGroupTable, boot_command, flush_command}, Sample.{SurvivorSampleLaw}}, proofs.{PutOne.{put_one_law}, AllOf.{All}, FlushLaws.{flush_law}, SampleFiles.{bare, copies_of, first_of, is_first_bare, made_of, reserved, shape_of, tidy_of}, SampleSteps.{grouped, may_append_pair, may_raise, pair, prepare_put}, SampleUnits.{AreTold, copies_all, distinct_of, left_without, made_all, no_chance, put_all, wrote_pooled}, Samples.{block}, Without.{without, without_shows}, TidyGroups.{tidy_boot_law, tidy_flush_law}, Writes.{stop_law}}}

abbrev shape : Shape
shape = shape_of 2 (λ op text. Some no_parts)

-- the superblock of a boot of an empty file
abbrev content : ℕ → ℕ → Content
content sum boot = bare 2 1 sum boot

abbrev view : ℕ → ℕ → View
view sum boot = first_of (content sum boot)

is_first : IsFirst shape (view 50 0)
is_first = is_first_bare 2 1 50 (λ op text. Some no_parts) (omega arith) (record { one = λ is. absurd (omega arith); two = λ is. (refl, refl) })

abbrev made : UnitLog
made = made_of (content 50 0)

tidy_made : IsTidy shape made (view 50 0)
tidy_made = (tidy_of shape (content 50 0) is_first).0

-- ---- a boot update

may_boot : (a b boot : ℕ) → boot < 5 → MayBoot (view a boot) (content b (boot + 1))
may_boot a b boot small = may_raise (view a boot) b 0 [] refl (omega arith)
    (record { pin_from = (omega arith, omega arith); pin_to = omega arith; checksum = refl; answered = (omega arith, omega arith); stored = λ k r at low. absurd (let both : None ≡ Some r = at in cc); unstored = λ k none. refl; spare = λ k low. refl })

abbrev boot1 : Command
boot1 = boot_command (view 50 0) (content 51 1) (copies_of (content 51 1))

abbrev log1 : UnitLog
log1 = after_steps boot1.steps made

tidy1 : IsTidy shape log1 (view 51 1)
tidy1 = (tidy_boot_law shape made (view 50 0) (content 51 1) (copies_of (content 51 1))
    (record { rests = tidy_made.rests; quiet = tidy_made.quiet; whole = tidy_made.whole }) (may_boot 50 51 0 (omega arith))).0.tidy

-- ---- a group of two

abbrev first : Message
first = grouped 41 0 7 1 1

abbrev second : Message
second = grouped 42 41 8 2 1

-- and as they are written anew
abbrev third : Message
third = grouped 43 0 7 1 2

abbrev fourth : Message
fourth = grouped 44 43 8 2 2

abbrev group : List Message
group = pair 41 42 1

may1 : MayAppend shape (view 51 1) group
may1 = may_append_pair (λ op text. Some no_parts) 51 41 42 1

abbrev log2 : UnitLog
log2 = wrote (prepare_put second) (wrote (prepare_put first) log1)

good : IsGoodLog shape (view 51 1) (appended (view 51 1) group) log2
good = (flush_law shape log1 (view 51 1) group group (prepare_put first ∷ prepare_put second ∷ []) [] tidy1.rests tidy1.quiet tidy1.clear may1 (λ several. omega arith) (record { there = λ p at. at; back = λ p at. at }) (put_one_law (PreparePlace 1) (PrepareUnit first), (put_one_law (PreparePlace 2) (PrepareUnit second), tt)) tt).loose.1.1

-- ---- the stop

abbrev image : Units
image = without (PreparePlace 1) (now log2)

left : IsLeftBy log2 image
left = left_without (PreparePlace 1) log2 refl

-- one checksum, one unit
abbrev header_with : ℕ → Header
header_with n = if n == 41 then first.header else (if n == 42 then second.header else reserved)

abbrev prepare_with : ℕ → Message
prepare_with n = if n == 42 then second else first

abbrev content_with : ℕ → Content
content_with n = if n == 51 then content 51 1 else content 50 0

abbrev IsOurs : AnyUnit → Type 0
IsOurs (CopyUnit c) = c ≡ content_with c.checksum
IsOurs (HeaderUnit h) = h ≡ header_with h.checksum
IsOurs (PrepareUnit p) = (p ≡ prepare_with p.header.checksum) × (p.header ≡ header_with p.header.checksum)
IsOurs (ReplyUnit r) = ⊥
IsOurs (BlockUnit b) = ⊥

told : AreTold IsOurs
told = record { contents = content_with; headers = header_with; prepares = prepare_with; replies = λ n. first; blocks = λ n. block; content = λ c is. is; header = λ h is. is; prepare = λ p is. is; reply = λ r none. absurd none; block = λ b none. absurd none }

all1 : All IsOurs log1.start log1.events
all1 = copies_all IsOurs (content 51 1) refl (add Synced made) (made_all IsOurs (content 50 0) refl refl)

all2 : All IsOurs log2.start log2.events
all2 = put_all IsOurs (PreparePlace 2) (PrepareUnit second)
    (wrote (prepare_put first) log1) (refl, refl) (put_all IsOurs (PreparePlace 1) (PrepareUnit first) log1 (refl, refl) all1)

chance : NoChance log2 image
chance = no_chance IsOurs (distinct_of IsOurs told) log2 all2 image
    (λ place x is. wrote_pooled (prepare_put second) (wrote (prepare_put first) log1)
    (wrote_pooled (prepare_put first) log1 tidy1.rests.pooled) place x (without_shows (PreparePlace 1) place (now log2) x is))

held : Holds shape image (view 51 1)
held = elim (good.left image left chance) [
  | inl before ↦ before
  | inr after ↦ absurd (let shown : None ≡ Some (PrepareUnit
      first) = after.bears.needs (PreparePlace 1) (PrepareUnit first) (first, inl refl, refl, refl) in cc)
]

abbrev log3 : UnitLog
log3 = add (Stopped image) log2

rests3 : RestsOn shape log3 (view 51 1)
rests3 = stop_law shape log2 (view 51 1) image (good.safe.stopped image left chance) held

whole3 : IsWhole shape (now log3) (view 51 1)
whole3 = record { copies = tidy1.whole.copies; headers = tidy1.whole.headers }

-- ---- the next boot, and the ops anew

abbrev boot2 : Command
boot2 = boot_command (view 51 1) (content 52 2) (copies_of (content 52 2))

abbrev log4 : UnitLog
log4 = after_steps boot2.steps log3

leads4 : LeadsTidily shape log3 (view 51 1) boot2
leads4 = (tidy_boot_law shape log3 (view 51 1) (content 52 2) (copies_of (content 52 2)) (record { rests = rests3; quiet = λ place wet. absurd (let no_unit : false ≡ true = wet in cc); whole = whole3 }) (may_boot 51 52 1 (omega arith))).0

abbrev again : List Message
again = pair 43 44 2

abbrev table : ℕ → Header
table s = if s == 1 then third.header else (if s == 2 then fourth.header else reserved)

abbrev prepares : List Units
prepares = put_one (PreparePlace 2) (PrepareUnit fourth) ∷ put_one (PreparePlace 1) (PrepareUnit third) ∷ []

abbrev headers : List Units
headers = put_one (HeaderPlace 1) (HeaderUnit third.header) ∷ put_one (HeaderPlace 2) (HeaderUnit fourth.header) ∷ []

all_table : AllPutTable table headers
all_table = (
  λ place y is. let at = (put_one_law (HeaderPlace 1) (HeaderUnit third.header)).only place y is in (1, at.0, at.1),
  (λ place y is. let at = (put_one_law (HeaderPlace 2) (HeaderUnit fourth.header)).only place y is in (2, at.0, at.1), tt),
)

is_table : IsGroupTable shape (now log4) again table headers
is_table = record {
  from = λ s below. elim (cases_eq s 1) [
    | inl one ↦ inr (third, inl refl, one, ap table one)
    | inr no_one ↦ elim (cases_eq s 2) [
      | inl two ↦ inr (fourth, inr (inl refl), two, ap table two)
      | inr no_two ↦ inl (ap (λ (h : Header). Some (HeaderUnit h)) (sym (else_reserved s no_one no_two)))
    ]
  ];
  inside = λ s reaches. elim reaches [
    | inl (y, is) ↦ let at : HeaderPlace s ≡ HeaderPlace 1 =
        ((put_one_law (HeaderPlace 1) (HeaderUnit third.header)).only (HeaderPlace s) y is).0 in let e : s ≡ 1 = cc (at) in omega (arith, e)
    | inr (inl (y, is)) ↦ let at : HeaderPlace s ≡ HeaderPlace 2 = ((put_one_law (HeaderPlace 2) (HeaderUnit fourth.header)).only (HeaderPlace s) y is).0 in let e : s ≡ 2 = cc (at) in omega (arith, e)
    | inr (inr none) ↦ absurd none
  ];
  own = λ p at. elim at [
    | inl is ↦ rw is refl
    | inr (inl is) ↦ rw is refl
    | inr (inr none) ↦ absurd none
  ];
  reached = λ p at. elim at [
    | inl is ↦ rw is (inl (HeaderUnit third.header, refl))
    | inr (inl is) ↦ rw is (inr (inl (HeaderUnit fourth.header, refl)))
    | inr (inr none) ↦ absurd none
  ];
}
  where
    else_reserved : (s : ℕ) → (s ≡ 1 → ⊥) → (s ≡ 2 → ⊥) → table s ≡ reserved
    else_reserved s no_one no_two = grind (arith, nat_tests)

abbrev flush : Command
flush = flush_command (view 52 2) again prepares headers

same : AreSame (fourth ∷ third ∷ []) again
same = record {
  there = λ p at. elim at [ inl is ↦ inr (inl is) | inr (inl is) ↦ inl is | inr (inr none) ↦ absurd none ];
  back = λ p at. elim at [ inl is ↦ inr (inl is) | inr (inl is) ↦ inl is | inr (inr none) ↦ absurd none ];
}

leads5 : LeadsTidily shape log4 (view 52 2) flush
leads5 = (tidy_flush_law shape log4 (view 52 2) again (fourth ∷ third ∷ []) prepares table headers leads4.tidy (may_append_pair (λ op text. Some no_parts) 52 43 44 2) (λ several. omega arith) same (put_one_law (PreparePlace 2) (PrepareUnit fourth), (put_one_law (PreparePlace 1) (PrepareUnit third), tt)) all_table is_table).0

pub survivor_sample_law : SurvivorSampleLaw
survivor_sample_law = record {
  shape = shape;
  log = log2;
  view = view 51 1;
  image = image;
  survivor = second;
  safe = good.safe;
  left = (left, chance, held);
  shows = (refl, omega arith);
  rests = rests3;
  commands = boot2 ∷ flush ∷ [];
  lead = (leads4, (leads5, tt));
  anew = (fourth, inr (inl refl), refl, omega arith);
}
