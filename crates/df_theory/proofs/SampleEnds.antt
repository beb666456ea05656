-- The sample goes on: a checkpoint is finished, and another prepare appended.
use Rattle.std.proofs.{Common.{◌≡◌, inl, inr, ℕ, ◌≤◌, ◌==◌, Bool, true, false, if◌then◌else◌, List, [], ◌∷◌, Some, None, refl, sym, ap, subst, arith}, lemmas.Bool.Decides.{nat_tests}}
use Rattle.df_theory.{specs.{Units.{Block, BlockPlace, BlockUnit, Content, Message}, Trailer.{InChain}, View.{Checkpoint, View}, Holds.{Stands}, Next.{MayAppend, MayFinish, checkpointed}, UnitLog.{UnitLog, now}, Runs.{Command, after_steps}, Commands.{finish_command}, TidyLaws.{KeepStanding, KeepsStanding, LeadTidily, LeadsTidily}, WholeLaws.{IsStanding}, Sample.{SampleLaw}}, proofs.{Tidy.{tidy_finish_law}, SampleFiles.{copies_of, layout}, SampleSteps.{append_leads, append_of, may_append}, Samples.{parts, shape, first, made_steps, made, safe_made, tidy_made, command1, leads1, view2, command2, leads2, block, trailer, block_at, leads3, log4, leads4}}}

-- ---- the checkpoint

abbrev pub content2 : Content
content2 = record { checksum = 22; version = 1; cluster = 3; layout = layout; sequence = 2; boot = 0; op = 1; op_checksum = 5; head = 1; replies = 1; pin = 1; pin_checksum = 5; answered = 0; reply_checksums = []; trailer = 1; trailer_checksum = 11; trailer_size = 1; rest = [] }

abbrev pub checkpoint2 : Checkpoint
checkpoint2 = record { content = content2; chain = (1, trailer) ∷ []; parts = parts }

abbrev pub view5 : View
view5 = checkpointed view2 checkpoint2

abbrev pub command5 : Command
command5 = finish_command view2 checkpoint2 (copies_of content2)

abbrev pub log5 : UnitLog
log5 = after_steps command5.steps log4

may5 : MayFinish shape view2 checkpoint2
may5 = record {
  is = record { file = (refl, refl, refl, refl); sequence = refl; boot = refl; op_from = omega arith; op_to = omega arith; op_checksum = refl; sessions = refl; head = refl; replies = refl; records = record { pin_from = (omega arith, omega arith); pin_to = omega arith; checksum = refl; answered = (omega arith, omega arith); stored = λ k r at low. absurd (omega arith); unstored = λ k none. refl; spare = λ k low. refl }; of = record { one = λ is. (refl, refl, refl, refl); two = λ is. absurd (omega arith) } };
  trailer = record {
    reference = record { address = omega arith; some = λ above. omega arith; none = λ none. absurd (omega arith); size = λ above. (omega arith, omega arith) };
    links = (omega arith, refl, refl, refl, refl, refl, refl, refl);
    count = record { holds = omega arith; needed = λ some. omega arith };
    inside = λ a b at. inside a b at;
    size = refl;
    says = refl;
    spare = λ a b at. spare a b at;
  };
  ends = λ p at low. elim at [ inl is ↦ omega (arith, ap (λ (w : Message). w.header.group_last) is) | inr none ↦ absurd none ];
  pin_ends = λ p at low. elim at [ inl is ↦ omega (arith, ap (λ (w : Message). w.header.group_last) is) | inr none ↦ absurd none ];
  unspent = omega arith;
}
  where
    inside : (a : ℕ) (b : Block) → InChain a b checkpoint2.chain → a ≤ 1024
    inside a b (inl is) = omega (arith, is.0)
    inside a b (inr none) = absurd none

    spare : (a : ℕ) (b : Block) → InChain a b checkpoint2.chain → parts.references a ≡ None
    spare a b (inl is) = ap parts.references is.0
    spare a b (inr none) = absurd none

held4 : (a : ℕ) (b : Block) → InChain a b checkpoint2.chain → now log4 (BlockPlace a) ≡ Some (BlockUnit b)
held4 a b (inl is) =
    subst (λ (k : ℕ). now log4 (BlockPlace k) ≡ Some (BlockUnit b)) (sym is.0) (ap (λ (c : Block). Some (BlockUnit c)) (sym is.1))
held4 a b (inr none) = absurd none

pub leads5 : LeadsTidily shape log4 view2 command5 × (IsStanding log4 view2 → Stands (now log4) view5 → KeepsStanding shape log4 view2 command5)
leads5 = tidy_finish_law shape log4 view2 checkpoint2 (copies_of content2) leads4.0.tidy may5 held4

-- ---- another append

abbrev pub prepare2 : Message
prepare2 = record { header = record { checksum = 12; parent = 5; client = 7; op = 2; request = 2; mark = 1; checkpoint = 2; boot = 0; group = 2; group_last = 2 }; body = [] }

abbrev pub log6 : UnitLog
log6 = after_steps (append_of view5 prepare2).steps log5

may6 : MayAppend shape view5 (prepare2 ∷ [])
may6 = may_append shape view5 (prepare2 ∷ []) (omega arith) (refl, refl, tt) (record { mark = refl; checkpoint = refl; boot = refl; group = refl; group_last = refl }, tt) (omega arith, omega arith, omega arith) (inl (refl, refl, omega arith), tt)

leads6 : LeadsTidily shape log5 view5 (append_of view5 prepare2)
    × (IsStanding log5 view5 → KeepsStanding shape log5 view5 (append_of view5 prepare2))
leads6 = append_leads 1 (λ op text. Some parts) log5 view5 prepare2 leads5.0.tidy may6

-- ---- all of it

abbrev pub commands : List Command
commands = command1 ∷ command2 ∷ block_at 2 block ∷ block_at 1 trailer ∷ command5 ∷ append_of view5 prepare2 ∷ []

lead : LeadTidily shape made first commands
lead = (leads1.0, (leads2.0, (leads3.0, (leads4.0, (leads5.0, (leads6.0, tt))))))

-- block 2 alone is referenced
only_two : (a c : ℕ) → (if a == 2 then Some 9 else None) ≡ Some c → (a ≡ 2) × (c ≡ 9)
only_two a c is = go (a == 2) refl is
  where
    go : (t : Bool) → (a == 2) ≡ t → (if t then Some 9 else None) ≡ Some c → (a ≡ 2) × (c ≡ 9)
    go true test both = (grind (arith, nat_tests), let same : Some 9 ≡ Some c = both in cc)
    go false test none = absurd (let same : None ≡ Some c = none in cc)

stands4 : Stands (now log4) view5
stands4 a c is = let at = only_two a c is in (block, rw at.0 refl, sym at.1, omega arith)

-- the referenced blocks stand all along
keep : KeepStanding shape made first commands
keep = let one = leads1.1 tidy_made.1 in let two = leads2.1 one.standing in
    let three = leads3.1 two.standing (λ c none. absurd (let both : None ≡ Some c = none in cc)) in
    let four = leads4.1 three.standing (λ c none. absurd (let both : None ≡ Some c = none in cc)) in
    let five = leads5.1 four.standing stands4 in let six = leads6.1 five.standing in (one, (two, (three, (four, (five, (six, tt))))))

pub sample_law : SampleLaw
sample_law = record { shape = shape; first = first; format = made_steps; commands = commands; safe = safe_made; tidy = tidy_made.0; standing = tidy_made.1; lead = lead; keep = keep; some = (omega arith, omega arith, refl, (2, 9, refl)) }
