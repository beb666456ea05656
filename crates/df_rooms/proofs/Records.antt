-- What is recorded of a state is what the machine records of it, and can be used.
use Rattle.std.{proofs.{Common.{◌≡◌, inl, inr, ℕ, ◌≤◌, ◌<◌, ◌+◌, ◌^◌, List, [], ◌∷◌, ◌++◌, length, map, drop, length-drop, Option, Some, None, refl, sym, ◌∙◌, ap, arith}, lemmas.List.{get_or-drop}, lemmas.List.FromFn.{get_or-map-range_with_len, length-map-range_with_len}, lemmas.Option.{slice_get-map, slice_get_past}}, specs.{Prelude.{slice_get}, List.{range_with_len}, Option.{option_map}}}
use Rattle.df_format.specs.{Copies.{content_with}, Super.{AreNone}, SuperRules.{IsSuper, IsUsable}, declared.superblock.SuperFields.{SuperFields}}
use Rattle.df_sessions.specs.{declared.session.Session.{Session}, Table.{IsSessionTable}}
use Rattle.df_model.specs.{Memory.{joined}, Making.{named_places, named_sums, sum_or_zero}}
use Rattle.df_model.specs.Making as making
use Rattle.df_checkpoint.specs.Below.{content_of, number_of}
use Rattle.df_units.{specs.{Meaning.{offset_list, or_nothing, reply_checksums_of, rest_of}, Superblocks.{AreFieldsOf}}, proofs.Laws.{by_second, no_number}}
use Rattle.df_rooms.specs.{State.{IsSecond, IsState, State, memory, reply_sum, stored_sum}, declared.file.DataFile.{DataFile}, Recorded.{MayRecord, check_or_zeros, recorded, stored_check, stored_checks}}

-- ---- in the words of the machine

-- the number of a stored reply's checksum, at one place
number_of_reply : (o : Option (List ℕ)) → number_of (check_or_zeros o) ≡ sum_or_zero (reply_sum o)
number_of_reply None = no_number
number_of_reply (Some check) = refl

number_at : (o : Option Session) → number_of (stored_check o) ≡ sum_or_zero (joined (option_map stored_sum o))
number_at None = no_number
number_at (Some s) = number_of_reply s.reply

numbers_at : (sessions : List Session) (ks : List ℕ) → map number_of (map (λ k. stored_check (slice_get sessions k)) ks)
    ≡ map (λ k. sum_or_zero (joined (slice_get (map stored_sum sessions) k))) ks
numbers_at sessions [] = refl
numbers_at sessions (k ∷ ks) = ap (λ (n : ℕ). n ∷ map number_of (map (λ i. stored_check (slice_get sessions i)) ks))
    (number_at (slice_get sessions k) ∙ ap (λ (o : Option (Option ℕ)). sum_or_zero (joined o)) (sym (slice_get-map stored_sum sessions k)))
    ∙ ap (λ (ns : List ℕ). sum_or_zero (joined (slice_get (map stored_sum sessions) k)) ∷ ns) (numbers_at sessions ks)

pub names_are : (s : State) → map number_of (stored_checks s.table.sessions) ≡ named_sums (memory s)
unfolding stored_checks named_sums
names_are s = numbers_at s.table.sessions (range_with_len 0 named_places)

-- of version 2, what it says is what the machine records, with its own checksum
pub recorded_content : (s : State) (f : SuperFields) → f.version ≡ 2 → content_of (content_with (recorded s f))
    ≡ record (making.recorded (memory s) (content_of (content_with f))) { checksum = number_of (content_with (recorded s f)).checksum }
recorded_content s f second = λ i. record (content_of (content_with f)) {
  checksum = number_of (content_with g).checksum;
  head = s.head;
  replies = s.replies;
  pin = by_second g s.head f.op second i;
  pin_checksum = number_of (by_second g s.head_checksum f.op_checksum second i);
  answered = by_second g (s.replies + 1) 0 second i;
  reply_checksums = names i;
  rest = rest i;
}
  where
    g : SuperFields
    g = recorded s f

    names : reply_checksums_of g ≡ named_sums (memory s)
    names = by_second g (map number_of (stored_checks s.table.sessions)) [] second ∙ names_are s

    rest : rest_of g ≡ rest_of f
    rest = ap (λ (l : List ℕ). l ++ offset_list f.first_nonzero)
        (by_second g [] (or_nothing (number_of s.head_checksum ∷ map number_of (stored_checks s.table.sessions))) second
        ∙ sym (by_second f [] (or_nothing (number_of f.head_checksum ∷ map number_of f.reply_checksums)) second))

-- ---- it can be used

-- no place without a session has a name
spare_names : (sessions : List Session) (clients : ℕ) → length sessions ≤ clients → AreNone (drop clients (stored_checks sessions))
unfolding stored_checks
spare_names sessions clients few k past inside =
    let all : List (List ℕ) = map (λ i. stored_check (slice_get sessions i)) (range_with_len 0 named_places) in
    let long : length all ≡ named_places = length-map-range_with_len (λ i. stored_check (slice_get sessions i)) 0 named_places in
    get_or-drop clients all k past ∙ get_or-map-range_with_len (λ i. stored_check (slice_get sessions i))
    0 named_places (clients + k) (clients + k) past (omega (arith, inside, long, length-drop clients all)) (omega arith)
    ∙ ap stored_check (slice_get_past sessions (clients + k) (omega (arith, few)))

pub recorded_is_super : (s : State) (f : SuperFields) → IsState s → IsSessionTable s.table → MayRecord s f → IsSuper (recorded s f)
recorded_is_super s f is table may = record {
  version = inr (record {
    version = may.version;
    boot = may.boot;
    no_head = is.first;
    head_is_op = may.level;
    spare = spare_names s.table.sessions f.clients (omega (arith, table.within, is.places, may.places));
  });
  layout = may.layout;
  cluster = may.cluster;
  sequence = may.sequence;
  op = omega (arith, may.op, is.head_to);
  op_checksum = may.op_checksum;
  head = (may.op, may.room, is.head_to);
  replies = (omega (arith, is.waiting), omega (arith, is.waiting, is.few));
  trailer = may.trailer;
  trailer_checksum = may.trailer_checksum;
  no_trailer = may.no_trailer;
  trailer_size = may.trailer_size;
  zero = may.zero;
}

-- of version 2 it has a boot, and names what its file has
pub second_super : (file : DataFile) (f : SuperFields) → f.version ≡ 2 → IsUsable f → AreFieldsOf file.layout file.cluster f → IsSecond file f
second_super file f second is of = record {
  rules = elim is.rules.version [ inl one ↦ absurd (omega (arith, second, one.version)) | inr two ↦ two ];
  of = of;
  names = is.fits.reply_checksums;
  first_nonzero = is.rules.zero;
}

-- the numbers of a superblock that are its file's
abbrev pub numbers_of : SuperFields → ℕ × ℕ × ℕ × ℕ × ℕ × ℕ
numbers_of f = (f.slots, f.message_size, f.clients, f.block_size, f.blocks, f.cluster)

-- another one with the same numbers is of the file, too
pub numbers_as : (file : DataFile) (f g : SuperFields)
    → numbers_of g ≡ numbers_of f → AreFieldsOf file.layout file.cluster f → AreFieldsOf file.layout file.cluster g
numbers_as file f g same of = record {
  slots = (λ i. (same i).0) ∙ of.slots;
  message_size = (λ i. (same i).1) ∙ of.message_size;
  clients = (λ i. (same i).2) ∙ of.clients;
  block_size = (λ i. (same i).3) ∙ of.block_size;
  blocks = (λ i. (same i).4) ∙ of.blocks;
  cluster_is = (λ i. (same i).5) ∙ of.cluster_is;
}

pub second_as : (file : DataFile) (f g : SuperFields)
    → IsSecond file f → numbers_of g ≡ numbers_of f → g.version ≡ 2 → IsUsable g → IsSecond file g
second_as file f g is same second usable = second_super file g second usable (numbers_as file f g same is.of)

-- the superblock of a state may be recorded anew, in the next boot
pub boot_may_record : (s : State)
    → IsState s → IsSuper s.fields → s.fields.boot < 2 ^ 62 → MayRecord s (record s.fields { boot = s.fields.boot + 1 })
boot_may_record s is super unspent = record {
  version = is.second.rules.version;
  boot = omega (arith, unspent);
  layout = super.layout;
  places = is.second.of.clients;
  cluster = super.cluster;
  sequence = super.sequence;
  op = is.order;
  room = omega (arith, is.room, is.second.of.slots);
  op_checksum = super.op_checksum;
  level = is.level;
  trailer = super.trailer;
  trailer_checksum = super.trailer_checksum;
  no_trailer = super.no_trailer;
  trailer_size = super.trailer_size;
  zero = super.zero;
}
