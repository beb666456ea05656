-- The end of a checkpoint.
use Rattle.std.proofs.{Common.{◌≡◌, inl, ℕ, zero, suc, ◌+◌, ◌-◌, ◌*◌, ◌<◌, ◌||◌, Bool, true, false, List, [], ◌∷◌, length, drop, Option, Some, refl, sym, ◌∙◌, ap, subst, arith, length-drop}, lemmas.List.{take_all}, Math.Nat.{mul-add}}
use Rattle.df_theory.{specs.{Units.{Block, Content, Parts, Session}, Sessions.{sessions_after}, Trailer.{InChain, IsCount, IsReference, IsTrailer, Says, text_of}, Shape.{Shape}, View.{Checkpoint, View, head, sequence, sessions}, Next.{IsFinish, MayFinish, Records, checkpointed}}, proofs.Laws.{checkpoint_sound, sessions-drop, in_dropped}}
use Rattle.df_model.{specs.{Work.{Running, Work, is_captured, is_in, is_known, is_of}, Codec.{AreLawful, IsCodec}, After.{checkpoint_of, finished}, Sense.{IsCapture, IsSpare, IsWork, draft}, Laws.{FinishExactLaw, FinishMayLaw}, Memory.{block_room, last_address, last_sum, memory_of}}, proofs.{Knows.{finish_knows, one_fewer}, Captures.{same_links}, Groups.{staged_on}, Recording.{IsRecordable, named_count, recordable, records_now}}}

-- the last block of a chain that isn't empty
last_in : (chain : List (ℕ × Block)) → 0 < length chain → (b : Block) × InChain (last_address chain) b chain
last_in [] some = absurd (omega arith)
last_in (x ∷ xs) some = (x.1, inl (refl, refl))

says_of : (sh : Shape) (op : ℕ) (chain : List (ℕ × Block)) (parts : Parts)
    → 0 < length chain → sh.parse op (text_of chain) ≡ Some parts → Says sh op chain parts
says_of sh op [] parts some read = absurd (omega arith)
says_of sh op (x ∷ xs) parts some read = read

widen : (x y z u t : Bool) → (x || (false || (y || z))) ≡ true → (x || ((y || (z || u)) || t)) ≡ true
widen true y z u t is = refl
widen false true z u t is = refl
widen false false true u t is = refl
widen false false false u t is = absurd (cc)

-- the superblock that ends a checkpoint, but for what it records
abbrev captured : Shape → (Parts → List ℕ) → Work → Running → (sum : ℕ) → Content
captured sh spell w r sum = record w.view.checkpoint.content {
  checksum = sum;
  sequence = sequence w.view + 1;
  op = r.op;
  op_checksum = r.op_checksum;
  trailer = last_address r.written;
  trailer_checksum = last_sum r.written;
  trailer_size = length (spell r.parts);
}

module _ (sh : Shape) (spell : Parts → List ℕ)
    (w : Work) (r : Running) (sum : ℕ) (work : IsWork sh spell w) (is : IsCapture sh spell w.view r) (done : r.left ≡ []) where
  abbrev v : View
  v = w.view

  codec : IsCodec sh spell
  codec = work.codec

  abbrev c : Checkpoint
  c = checkpoint_of sh spell w r sum

  size_some : 0 < length (spell r.parts)
  size_some = codec.some r.parts

  count : IsCount (block_room sh.layout) (length (spell r.parts)) (length r.written)
  count = subst (IsCount (block_room sh.layout) (length (spell r.parts)))
      (let e : length r.written + length r.left ≡ length r.written = omega (arith, ap length done) in e) is.count

  some_of : (n : ℕ) → IsCount (block_room sh.layout) (length (spell r.parts)) n → 0 < n
  some_of zero counts = absurd (let none : block_room sh.layout * 0 ≡ 0 = omega arith in omega (arith, counts.holds, size_some))
  some_of (suc n) counts = omega arith

  some : 0 < length r.written
  some = some_of (length r.written) count

  last_spare : IsSpare sh r (last_address r.written)
  last_spare = let last = last_in r.written some in (is.written (last_address r.written) last.0 last.1).0

  text : text_of r.written ≡ spell r.parts
  text = is.text ∙ take_all (block_room sh.layout * length r.written) (spell r.parts) count.holds

  reference : IsReference sh.layout c.content
  reference = record {
    address = last_spare.inside.1;
    some = λ any. last_spare.inside.0;
    none = λ none. absurd (let above = last_spare.inside.0 in omega arith);
    size = λ any. (size_some, codec.size r.op r.parts is.lawful);
  }

  pub is_trailer : IsTrailer sh c.content c.chain c.parts
  is_trailer = record {
    reference = reference;
    links = same_links
        (block_room sh.layout) (draft sh spell v r) c.content r.written (last_address r.written) (last_sum r.written) refl refl is.links;
    count = count;
    inside = λ a b at. (is.written a b at).0.inside.1;
    size = ap length text;
    says = says_of sh r.op r.written r.parts some (ap (sh.parse r.op) text ∙ codec.reads r.op r.parts is.lawful);
    spare = λ a b at. (is.written a b at).0.unreferenced;
  }

  v_version : v.checkpoint.content.version ≡ 2
  v_version = work.view.checkpoint.tests.version ∙ work.version.version

  can : IsRecordable v
  can = recordable sh v.checkpoint.content.version v work.view work.sessions.few work.version.places

  records : Records v c.content
  records = records_now sh spell w can (captured sh spell w r sum) is.op_from is.op_to is.op_checksum

  pub is_finish : IsFinish v c
  is_finish = record {
    file = (refl, refl, refl, refl);
    sequence = refl;
    op_from = is.op_from;
    op_to = is.op_to;
    op_checksum = is.op_checksum;
    sessions = is.sessions;
    boot = refl;
    head = refl;
    replies = refl;
    records = records;
    of = record { one = λ one. absurd (omega (arith, one, v_version)); two = λ two. (refl, refl) };
  }

  pub may_finish : MayFinish sh v c
  may_finish =
      record { is = is_finish; trailer = is_trailer; ends = is.ends; pin_ends = λ p at low. work.view.groups p at; unspent = is.unspent }

  pub same_sessions : sessions (checkpointed v c) ≡ sessions v
  same_sessions = ap (λ (l : List Session). sessions_after l (drop (r.op - v.checkpoint.content.op) v.tail)) is.sessions
      ∙ sessions-drop (r.op - v.checkpoint.content.op) v.checkpoint.parts.sessions v.tail

  pub head_same : head (checkpointed v c) ≡ head v
  head_same = omega (arith, length-drop (r.op - v.checkpoint.content.op) v.tail, is.op_from, is.op_to)

pub finish_keeps : (sh : Shape) (spell : Parts → List ℕ) (w : Work) (r : Running) (sum : ℕ)
    → IsWork sh spell w → w.running ≡ Some r → r.left ≡ [] → IsWork sh spell (finished sh spell w r sum)
finish_keeps sh spell w r sum work at done = let is : IsCapture sh spell w.view r = work.running r at in
    let u : Work = finished sh spell w r sum in
    let same : head (checkpointed w.view (checkpoint_of sh spell w r sum)) ≡ head w.view = head_same sh spell w r sum work is done in
    record {
      codec = work.codec;
      version = record { version = work.version.version; places = work.version.places; names = named_count (memory_of sh spell w) };
      view = checkpoint_sound sh w.view (checkpoint_of sh spell w r sum) work.view (may_finish sh spell w r sum work is done);
      sessions = subst (AreLawful sh.layout.clients) (sym (same_sessions sh spell w r sum work is done)) work.sessions;
      grid = λ a held. work.grid a (
          ap (λ (o : Option Running). is_known
          (w.live a) || (is_captured a o || (is_known (w.view.checkpoint.parts.references a) || is_of a w.view.checkpoint.chain))) at
          ∙ widen (is_known (w.live a)) (is_known (r.parts.references a))
          (is_of a r.written) (is_in a r.left) (is_known (w.view.checkpoint.parts.references a) || is_of a w.view.checkpoint.chain) held
          );
      waiting = record {
        count = omega (arith, work.waiting.count, same);
        each = λ i p there op. work.waiting.each i p (in_dropped (r.op - w.view.checkpoint.content.op) p w.view.tail there) op;
      };
      running = λ q none. absurd (cc);
      staged = let m = memory_of sh spell w in let n = memory_of sh spell u in
          staged_on sh w.view u.view m n (head w.view + 1) (head w.view + length w.staged) (head u.view
          + 1) (head u.view + length w.staged) (head w.view + 1) (head u.view + 1) m.head_checksum n.head_checksum w.staged [] []
          (omega (arith, same)) (omega arith) (omega (arith, length-drop (r.op - w.view.checkpoint.content.op) w.view.tail))
          same (omega arith) (same_sessions sh spell w r sum work is done) work.staged;
      one = one_fewer w (finished sh spell w r sum) (finish_knows sh spell w r sum at) work.one;
      sums = work.sums;
      few = work.few;
      clear = λ q none. absurd (cc);
    }

pub finish_may_law : FinishMayLaw
finish_may_law sh spell w r sum work at done = may_finish sh spell w r sum work (work.running r at) done

-- a text of some size has one count of pieces: what is written already isn't one where more is left
less_left : (room size n : ℕ) (left : List ℕ) → IsCount room size (n + length left) → IsCount room size n → left ≡ []
less_left room size n [] all some = refl
less_left room size n (a ∷ more) all some = let before : n + length (a ∷ more) - 1 ≡ n + length more = omega arith in
    let parts : room * (n + length more) ≡ room * n + room * length more = mul-add room n (length more) in
    let needed : room * (n + length more) < size = rw before at (all.needed (omega arith)) in
    absurd (omega (arith, some.holds, needed, parts))

pub finish_exact_law : FinishExactLaw
finish_exact_law sh spell w r sum work at may =
    less_left (block_room sh.layout) (length (spell r.parts)) (length r.written) r.left (work.running r at).count may.trailer.count
