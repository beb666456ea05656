-- What the end of a mending says, and whom it blames.
use Rattle.std.{proofs.Common.{◌≡◌, ◌⊎◌, ◌==◌, inl, inr, ℕ, Bool, true, false, List, Option, Some, refl, sym, ◌∙◌, ap, subst, arith, drop}, specs.Prelude.{Result, Ok, Err, OnOk, if◌then◌else◌}}
use Rattle.{df_base.specs.{Image.{Image}, Log.{Sync}}, df_disk.specs.Told.{Told, after, did}}
use Rattle.df_model.specs.{declared.errors.OpenError.{OpenError}, Faults.{is_open_fault}}
use Rattle.df_model.specs.declared.errors.OpenError.TheVariants as opens
use Rattle.df_damage.specs.{Surveys.{HasFile}, Opening.{HasSuperAs}}
use Rattle.df_format.specs.{Super.{AreNone}, SuperRules.{IsSuper}, declared.superblock.SuperFields.{SuperFields}}
use Rattle.df_program.{specs.{Telling.{Blames, PrintsError}, Two.{Faults, HasCausesOfTwo, Outside, counts}}, proofs.Laws.{first_causes, its_blame, neither_causes, printed_causes, refusal_ends, second_causes, text_ends, unopened_causes}}
use Rattle.df_mirror.specs.{declared.{ending.Ending.{Ending, TheVariants.{First, Neither, Second, Sink, Unopened}}, status.Status.{Status}, superblock.Superblock.{Superblock}}, Outside.{ended}, Mends.{AreInOrder}, Run.{Mirrored, MirroredNothing, Mirrors, RefusesFirstSuperblock, TellsEnd}, Statuses.{AreBlamed, is_first}, Texts.{count_text, neither_text}, Walks.{Mended, ShowsAll, superblock_units}}
use Rattle.df_mirror.specs.declared.status.Status.TheVariants as ends

-- no status is two of these
done_or_found : (b : Bool) (other : Status)
    → (ends.Done ≡ other → ⊥) → (ends.Found ≡ other → ⊥) → (if b then ends.Done else ends.Found) ≡ other → ⊥
done_or_found true other one two = one
done_or_found false other one two = two

ended_not : (count : ℕ) (other : Status) → (ends.Done ≡ other → ⊥) → (ends.Found ≡ other → ⊥) → ended count ≡ other → ⊥
ended_not count other = done_or_found (count == 0) other

pub memory_or : (s : Status) → (s ≡ ends.Memory) ⊎ (s ≡ ends.Memory → ⊥)
memory_or ends.Memory = inl refl
memory_or ends.Done = inr (λ no. cc)
memory_or ends.Found = inr (λ no. cc)
memory_or ends.Words = inr (λ no. cc)
memory_or ends.Refused = inr (λ no. cc)
memory_or ends.DiskFault = inr (λ no. cc)
memory_or ends.WriteFault = inr (λ no. cc)

-- ---- the statuses that don't come

-- neither Memory nor Words
abbrev pub EndsOtherwise : Status → Type 0
EndsOtherwise status = (status ≡ ends.Memory → ⊥) × (status ≡ ends.Words → ⊥)

pub refusal_otherwise : (e : OpenError) (old new : Option (List ℕ)) (status : Status)
    → PrintsError ends.Refused ends.DiskFault ends.WriteFault e old new status → EndsOtherwise status
refusal_otherwise e old new status prints = (
  refusal_ends ends.Refused ends.DiskFault ends.WriteFault ends.Memory e old new status prints (λ no. cc) (λ no. cc) (λ no. cc),
  refusal_ends ends.Refused ends.DiskFault ends.WriteFault ends.Words e old new status prints (λ no. cc) (λ no. cc) (λ no. cc),
)

pub tells_otherwise : (result : Result ℕ Ending) (old new : Option (List ℕ)) (status : Status)
    → TellsEnd result old new status → EndsOtherwise status
tells_otherwise (Ok count) old new status tells = (
  text_ends ends.WriteFault
      (count_text count) (ended count) ends.Memory old new status tells (ended_not count ends.Memory (λ no. cc) (λ no. cc)) (λ no. cc),
  text_ends ends.WriteFault
      (count_text count) (ended count) ends.Words old new status tells (ended_not count ends.Words (λ no. cc) (λ no. cc)) (λ no. cc),
)
tells_otherwise (Err (Neither place class)) old new status tells = (
  text_ends ends.WriteFault (neither_text place class) ends.Refused ends.Memory old new status tells (λ no. cc) (λ no. cc),
  text_ends ends.WriteFault (neither_text place class) ends.Refused ends.Words old new status tells (λ no. cc) (λ no. cc),
)
tells_otherwise (Err (Unopened e)) old new status tells = refusal_otherwise e old new status tells
tells_otherwise (Err First) old new status tells = let is = tells.0 in (λ memory. cc (is, memory), λ words. cc (is, words))
tells_otherwise (Err Second) old new status tells = let is = tells.0 in (λ memory. cc (is, memory), λ words. cc (is, words))
tells_otherwise (Err Sink) old new status tells = let is = tells.0 in (λ memory. cc (is, memory), λ words. cc (is, words))

-- ---- causes

first_open : (e : OpenError) → is_first (Unopened e) ≡ is_open_fault e
first_open opens.DiskFault = refl
first_open opens.NotFormatted = refl
first_open (opens.NoQuorum a) = refl
first_open (opens.Version a) = refl
first_open (opens.BadField a b) = refl
first_open (opens.LayoutDiffers a b) = refl
first_open (opens.Damaged a b) = refl
first_open opens.BootSpent = refl

module _ (before now : Faults) (old new : Option (List ℕ)) (status : Status) where
  since_then : (mid : ℕ) → mid ≡ before.sink → Blames ends.WriteFault mid now.sink status → Blames ends.WriteFault before.sink now.sink status
  since_then mid is blame = subst (λ (n : ℕ). Blames ends.WriteFault n now.sink status) is blame

  -- a mending ended so; the sink's count in between is this
  pub mended_causes : (mid : ℕ) (result : Result ℕ Ending) → AreBlamed before (counts now.first now.second mid) result
      → ((result ≡ Err Sink → ⊥) → Blames ends.WriteFault mid now.sink status) → (result ≡ Err Sink → now.sink ≡ mid)
      → TellsEnd result old new status → HasCausesOfTwo ends.DiskFault ends.WriteFault before now status
  mended_causes mid (Ok count) blamed blame failed tells =
      printed_causes ends.DiskFault ends.WriteFault before now status (since_then mid blamed.2 (blame (λ no. cc))) (λ no.
      cc) old new (count_text count) (ended count) (ended_not count ends.DiskFault (λ no. cc) (λ no. cc)) blamed.0 blamed.1 tells
  mended_causes mid (Err (Neither place class)) blamed blame failed tells =
      printed_causes ends.DiskFault ends.WriteFault before now status (since_then mid blamed.2 (blame (λ no. cc))) (λ no.
      cc) old new (neither_text place class) ends.Refused (λ no. cc) blamed.0 blamed.1 tells
  mended_causes mid (Err (Unopened e)) blamed blame failed tells =
      unopened_causes ends.DiskFault ends.WriteFault before now status (since_then mid blamed.2 (blame (λ no. cc))) (λ no.
      cc) old new ℕ e ends.Refused (λ no. cc) (rw (first_open e) at blamed.0) blamed.1 tells
  mended_causes mid (Err First) blamed blame failed tells =
      first_causes ends.DiskFault ends.WriteFault before now status (since_then mid blamed.2 (blame (λ no. cc))) tells.0 blamed.0 blamed.1
  mended_causes mid (Err Second) blamed blame failed tells =
      second_causes ends.DiskFault ends.WriteFault before now status (since_then mid blamed.2 (blame (λ no. cc))) tells.0 blamed.0 blamed.1
  mended_causes mid (Err Sink) blamed blame failed tells = let is : status ≡ ends.WriteFault = tells.0 in
      let same : now.sink ≡ mid = failed refl in neither_causes ends.DiskFault ends.WriteFault before now
      status (its_blame ends.WriteFault before.sink now.sink status is (rw (sym same) at blamed.2.1)) blamed.0 blamed.1 (λ no. cc (is, no))

-- a superblock of version 2 has no checksum where its file can have no session
pub second_spare : (f : SuperFields) → IsSuper f → f.version ≡ 2 → AreNone (drop f.clients f.reply_checksums)
second_spare f is second = elim is.version [
  | inl first ↦ absurd (omega (arith, first.version, second))
  | inr its ↦ its.spare
]

has_file : (b : Superblock) (image : Image) (f : SuperFields) → HasSuperAs 2 image f → b.content ≡ f → HasFile image b.file b.content
has_file b image f super same = record {
  super = rw (sym b.version) at (subst (HasSuperAs 2 image) (sym same) super);
  layout = record { slots = sym b.fields.slots; message_size = sym b.fields.message_size; clients = sym b.fields.clients; block_size = sym b.fields.block_size; blocks = sym b.fields.blocks };
  cluster = b.fields.cluster_is;
}

-- all that is known was mended, and that is told
pub mirrored_so : (b : Superblock) (t o : Told) (old mid : Outside) (written : Option (List ℕ)) (result : Result ℕ Ending)
    (status : Status) → Mended b AreInOrder t o old mid result (ShowsAll b) → TellsEnd result mid.written written status
    → Mirrored b t o old (record { first = mid.first; second = mid.second; written = written }) status
mirrored_so b t o old mid written result status mends tells = record {
  text = mid.written;
  result = result;
  answers = mends.answers;
  shown =
      λ count n is same. (subst (λ (r : Result ℕ Ending). OnOk r (ShowsAll b (superblock_units b n.shown))) is (mends.shown n same)).all;
  trailer = λ count n is same. (subst (λ (r : Result ℕ Ending). OnOk r (ShowsAll b (superblock_units b n.shown))) is
      (mends.shown n same)).trailer;
  tells = tells;
}

-- the mending of it began after the barrier
pub mirrored_then : (b : Superblock) (t o : Told) (old mid new : Outside) (status : Status) (f : SuperFields) → HasSuperAs 2 t.shown f
    → b.content ≡ f → mid.first ≡ Some (did Sync t) → mid.written ≡ old.written
    → (status ≡ ends.Memory → (new.first ≡ mid.first) × (new.written ≡ mid.written))
    → ((status ≡ ends.Memory → ⊥) → Mirrored b (did Sync t) o mid new status)
    → old.first ≡ Some t → MirroredNothing old new status ⊎ RefusesFirstSuperblock t old new status ⊎ Mirrors t o old new status
mirrored_then b t o old mid new status f super same barrier silent memory mirrors told = elim (memory_or status) [
  | inl is ↦ inl (record { undone = record { written = (memory is).1 ∙ silent; told = inr ((memory is).0 ∙ barrier ∙ ap (after Sync) (sym told)) }; why = inl is })
  | inr other ↦ let m = mirrors other in inr (inr (record {
    base = b;
    has = has_file b t.shown f super same;
    mirrored = record {
      text = m.text;
      result = m.result;
      answers = rw silent at m.answers;
      shown = m.shown;
      trailer = m.trailer;
      tells = m.tells;
    };
  }))
]
