-- The steps that the samples take alike: an append, and a boot update.
use Rattle.std.proofs.Common.{◌≡◌, inl, inr, ℕ, ◌+◌, ◌%◌, ◌<◌, ◌≤◌, ◌^◌, List, [], ◌∷◌, length, Option, Some, refl, sym, subst, arith}
use Rattle.df_theory.{specs.{Units.{Content, CopyPlace, CopyUnit, HeaderPlace, HeaderUnit, Message, Parts, PreparePlace, PrepareUnit, Units}, Tails.{In, last_checksum}, Shape.{Shape, clients, slots}, View.{View, boot_of, head, sessions}, Next.{AreInTurn, IsStamped, MayAppend, MayAskInTurn, MayBoot, Records}, UnitLog.{Synced, UnitLog, add, now, put_one, wrote}, Rests.{IsQuiet}, Runs.{Command, after_steps}, CopyPuts.{update_steps}, Commands.{append_command}, TidyLaws.{IsTidy, KeepsStanding, LeadsTidily}, WholeLaws.{IsStanding}}, proofs.{PutOne.{put_one_law}, Keeps.{four}, Tidy.{tidy_append_law}, Writes.{quiet_synced}, SampleFiles.{bare, copies_of, first_of, sector, shape_of}}}

-- ---- an append

abbrev pub AreStamped : View → ℕ → List Message → Type 0
AreStamped v last [] = Unit {0}
AreStamped v last (p ∷ ps) = IsStamped v last p.header × AreStamped v last ps

stamped_in : (v : View) (last : ℕ) (ps : List Message) → AreStamped v last ps → (p : Message) → In p ps → IsStamped v last p.header
stamped_in v last [] are p none = absurd none
stamped_in v last (q ∷ ps) are p (inl is) = subst (λ (r : Message). IsStamped v last r.header) (sym is) are.0
stamped_in v last (q ∷ ps) are p (inr later) = stamped_in v last ps are.1 p later

-- a group that is in its turn and stamped, with room for it, and whose clients may ask
pub may_append :
    (sh : Shape) (v : View) (ps : List Message) → 0 < length ps
    → AreInTurn (head v + 1) (last_checksum v.checkpoint.content.op_checksum v.tail) ps → AreStamped v (head v + length ps) ps
    → (length v.tail + length ps ≤ slots sh) × (head v + length ps ≤ v.replies + 8) × (head v + length ps ≤ 2 ^ 62)
    → MayAskInTurn (clients sh) (sessions v) ps → MayAppend sh v ps
may_append sh v ps some turn are room asks = record {
  is = record { some = some; turn = turn; stamped = stamped_in v (head v + length ps) ps are };
  room = room.0;
  pipeline = room.1;
  unspent = room.2;
  asks = asks;
}

-- a group of two by its checksums and its boot, the first prepares of two clients
abbrev pub grouped : ℕ → ℕ → ℕ → ℕ → ℕ → Message
grouped sum parent client op boot = record { header = record { checksum = sum; parent = parent; client = client; op = op; request = 1; mark = 0; checkpoint = 1; boot = boot; group = 1; group_last = 2 }; body = [] }

abbrev pub pair : ℕ → ℕ → ℕ → List Message
pair a b boot = grouped a 0 7 1 boot ∷ grouped b a 8 2 boot ∷ []

pub may_append_pair : (parse : ℕ → List ℕ → Option Parts) (sum a b boot : ℕ)
    → MayAppend (shape_of 2 parse) (first_of (bare 2 1 sum boot)) (pair a b boot)
may_append_pair parse sum a b boot =
    may_append (shape_of 2 parse) (first_of (bare 2 1 sum boot)) (pair a b boot) (omega arith) (refl, refl, (refl, refl, tt)) (
      record { mark = refl; checkpoint = refl; boot = refl; group = refl; group_last = refl },
      (record { mark = refl; checkpoint = refl; boot = refl; group = refl; group_last = refl }, tt),
    ) (omega arith, omega arith, omega arith) ((refl, omega arith), (inr (λ same. omega arith, 3, refl, (refl, omega arith)), tt))

abbrev pub prepare_put : Message → Units
prepare_put p = put_one (PreparePlace (p.header.op % 16)) (PrepareUnit p)

abbrev pub header_put : Message → Units
header_put p = put_one (HeaderPlace (p.header.op % 16)) (HeaderUnit p.header)

abbrev pub append_of : View → Message → Command
append_of v p = append_command v p (prepare_put p) (header_put p)

pub append_leads :
    (version : ℕ) (parse : ℕ → List ℕ → Option Parts) (log : UnitLog) (v : View) (p : Message)
    → IsTidy (shape_of version parse) log v → MayAppend (shape_of version parse) v (p ∷ [])
    → LeadsTidily (shape_of version parse) log v (append_of v p)
    × (IsStanding log v → KeepsStanding (shape_of version parse) log v (append_of v p))
append_leads version parse log v p tidy may = tidy_append_law (shape_of version parse) log v p (prepare_put p)
    (header_put p) tidy may (put_one_law (PreparePlace (p.header.op % 16)) (PrepareUnit p)) (sector (shape_of version parse) (now log) p)
    (put_one_law (HeaderPlace (p.header.op % 16)) (HeaderUnit p.header)).at

-- ---- a boot update

-- what an update of version 2 records, by the checksums of the content, of the prepare at its pin, and of the replies
abbrev pub raised : View → ℕ → ℕ → List ℕ → Content
raised v sum pin_sum reply_sums = record (v.checkpoint.content) { checksum = sum; boot = boot_of v + 1; head = head v; replies = v.replies; pin = head v; pin_checksum = pin_sum; answered = v.replies + 1; reply_checksums = reply_sums }

pub may_raise : (v : View) (sum pin_sum : ℕ) (reply_sums : List ℕ) → v.checkpoint.content.version ≡ 2
    → boot_of v < 2 ^ 62 → Records v (raised v sum pin_sum reply_sums) → MayBoot v (raised v sum pin_sum reply_sums)
may_raise v sum pin_sum reply_sums two low records = record {
  is = record {
    same = record { file = (refl, refl, refl, refl); sequence = refl; op = (refl, refl); trailer = (refl, refl, refl) };
    boot = refl;
    pin = refl;
    head = refl;
    replies = refl;
    answered = refl;
    records = records;
    of = record { one = λ is. absurd (omega (arith, is, two)); two = λ is. (refl, refl) };
  };
  unspent = low;
}

-- the four copies of a content, one by one
pub copies_are :
    (c : Content) (image : Units) → image (CopyPlace 0) ≡ Some (CopyUnit c)
    → image (CopyPlace 1) ≡ Some (CopyUnit c) → image (CopyPlace 2) ≡ Some (CopyUnit c) → image (CopyPlace 3) ≡ Some (CopyUnit c)
    → (n : ℕ) → n < 4 → image (CopyPlace n) ≡ Some (CopyUnit c)
copies_are c image at0 at1 at2 at3 n below = elim (four n below) [
  | inl at ↦ rw (sym at) at at0
  | inr (inl at) ↦ rw (sym at) at at1
  | inr (inr (inl at)) ↦ rw (sym at) at at2
  | inr (inr (inr at)) ↦ rw (sym at) at at3
]

-- nothing is loose after an update
pub quiet_updated : (c : Content) (log : UnitLog) → IsQuiet (after_steps (update_steps (copies_of c)) log)
quiet_updated c log = let after : ℕ → UnitLog → UnitLog = λ n l. add Synced (wrote (put_one (CopyPlace n) (CopyUnit c)) l) in
    quiet_synced (wrote (put_one (CopyPlace 3) (CopyUnit c)) (after 2 (after 1 (after 0 log))))
