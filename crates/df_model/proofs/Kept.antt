-- What is kept is read.
use Rattle.std.{proofs.{Common.{◌≡◌, inl, inr, ℕ, zero, suc, ◌+◌, ◌-◌, ◌%◌, ◌<◌, ◌≤◌, ◌==◌, nat_lt, nat_le, not, Bool, true, false, if◌then◌else◌, List, [], ◌∷◌, length, map, Option, Some, None, Result, Ok, refl, sym, ◌∙◌, ap, subst, arith, ltb-true, leb-true, ltb-false, eqb-true, eq-eqb}, lemmas.Option.{slice_get-map, slice_get_within}, lemmas.Bool.{and_parts, not-false}}, specs.{List.{range_with_len, slice_get}, Option.{option_map}}}
use Rattle.{df_base.proofs.Laws.{not_zero}, df_layout.specs.declared.damage.Class.{Class, TheVariants.{Stale}}}
use Rattle.df_theory.specs.{Units.{AnyUnit, Block, BlockPlace, BlockUnit, Message, Parts, PreparePlace, PrepareUnit, ReplyPlace, ReplyUnit, Session, Units}, Sessions.{Answers, noted}, Tails.{Chain, In}, Trailer.{InChain}, Shape.{Shape}, View.{head, sessions}, UnitLog.{UnitLog, now}}
use Rattle.df_model.{specs.{Work.{Running, Work, captured_sum, is_known, or_known, reference_of, sum_in}, Memory.{memory_of, sum_of_message, joined, stored_sum}, Blocks.{blocks_of, reference_in, referenced_in, addresses, entries, sum_at}, Refusals.{first_refusal, is_new, last_op, lookup_refusals, prepare_refusals, read_refusals, session_of_client}, After.{after_check, place_of_client, shown_or}, Commands.{ToReadBlock, ToReadPrepare, ToReadReply, ToScrub}, Supply.{block_given, first_check, given_if, is_sum, no_trailer, prepare_given, reply_given, verdict_of}, Sense.{IsBacked, ShowsBlock, ShowsOwnBlock}, Laws.{IsKeptBy}, Reading.{BlockReadLaw, PrepareReadLaw, ReplyReadLaw, ScrubLaw, shown_by}, declared.answers.Verdict.{Verdict}, declared.answers.Scrubbed.TheVariants.{Checked}}, proofs.{Tests.{all_pass}, Entries.{entry_there, filtered_each, reference_is, within}, Keeps.{chain_get}, Recording.{get_range}, Grid.{live_held}}}
use Rattle.df_model.specs.declared.reading.ReadError.TheVariants as read

-- the prepare with an op of a chain
chain_at : (clients op parent mark : ℕ) (ss : List Session) (ps : List Message) (i : ℕ)
    → Chain clients op parent mark ss ps → i < length ps → (p : Message) × In p ps × (p.header.op ≡ op + i)
chain_at clients op parent mark ss [] i chain less = absurd (omega arith)
chain_at clients op parent mark ss (x ∷ ps) zero chain less = (x, inl refl, omega (arith, chain.0.op_is))
chain_at clients op parent mark ss (x ∷ ps) (suc i) chain less =
    let rest = chain_at clients (op + 1) x.header.checksum x.header.mark (noted x.header ss) ps i chain.1 (omega arith) in
    (rest.0, inr rest.1, omega (arith, rest.2))

-- ---- what is given, where the unit is shown

pub same_sum : (known : Option ℕ) (sum : ℕ) → known ≡ Some sum → is_sum known sum ≡ true
same_sum known sum knows = ap (λ (k : Option ℕ). is_sum k sum) knows ∙ eq-eqb sum sum refl

pub known_is : (known : Option ℕ) (sum : ℕ) → is_sum known sum ≡ true → known ≡ Some sum
known_is None sum is = absurd (cc)
known_is (Some k) sum is = ap Some (sym (eqb-true sum k is))

pub prepare_shown : (known : Option ℕ) (unit : Option AnyUnit) (class : Class) (p : Message)
    → unit ≡ Some (PrepareUnit p) → known ≡ Some p.header.checksum → prepare_given known unit class ≡ Ok p
prepare_shown known unit class p shows knows = ap (λ (u : Option AnyUnit). prepare_given known u class) shows
    ∙ ap (λ (b : Bool). given_if b p class) (same_sum known p.header.checksum knows)

pub reply_shown : (known : Option ℕ) (unit : Option AnyUnit) (class : Class) (r : Message)
    → unit ≡ Some (ReplyUnit r) → known ≡ Some r.header.checksum → reply_given known unit class ≡ Ok r
reply_shown known unit class r shows knows = ap (λ (u : Option AnyUnit). reply_given known u class) shows
    ∙ ap (λ (b : Bool). given_if b r class) (same_sum known r.header.checksum knows)

pub block_shown : (known : Option ℕ) (unit : Option AnyUnit) (class : Class) (b : Block)
    → unit ≡ Some (BlockUnit b) → known ≡ Some b.checksum → block_given known unit class ≡ Ok b
block_shown known unit class b shows knows =
    ap (λ (u : Option AnyUnit). block_given known u class) shows ∙ ap (λ (e : Bool). given_if e b class) (same_sum known b.checksum knows)

answer_is : {X E : Type 0} (o : Option E) (damaged : Class → E) (shown : Result X Class) (x : X)
    → o ≡ None → shown ≡ Ok x → shown_or o damaged shown ≡ Ok x
answer_is (Some e) damaged shown x none given = absurd (cc)
answer_is None damaged shown x none given = ap (λ (s : Result _ Class). shown_or None damaged s) given

-- ---- prepares

pub prepare_read_law : PrepareReadLaw
prepare_read_law sh codec log damage w op keeps none = (p, found.1, op_is, ap ToReadPrepare (answer_is (first_refusal (prepare_refusals (memory_of sh codec.spell w) op)) _ _ p none (prepare_shown _ _ _ p shows sum)))
  where
    bounds : (w.view.checkpoint.content.op < op) × (op ≤ head w.view)
    bounds = let tests = all_pass (prepare_refusals (memory_of sh codec.spell w) op) none in
        let two = and_parts (nat_lt w.view.checkpoint.content.op op) (nat_le op (head w.view)) (not-false _ tests.0) in
        (ltb-true w.view.checkpoint.content.op op two.0, leb-true op (head w.view) two.1)

    found : (p : Message) × In p w.view.tail × (p.header.op ≡ w.view.checkpoint.content.op + 1 + (op - w.view.checkpoint.content.op - 1))
    found = chain_at
        sh.layout.clients (w.view.checkpoint.content.op + 1) w.view.checkpoint.content.op_checksum 0 w.view.checkpoint.parts.sessions
        w.view.tail (op - w.view.checkpoint.content.op - 1) keeps.sense.view.chain (omega (arith, bounds.0, bounds.1))

    p : Message
    p = found.0

    op_is : found.0.header.op ≡ op
    op_is = omega (arith, found.2, bounds.0)

    shows : now log (PreparePlace (op % sh.layout.slots)) ≡ Some (PrepareUnit found.0)
    shows = keeps.tidy.rests.holds.bears.needs (PreparePlace (op % sh.layout.slots))
        (PrepareUnit found.0) (found.0, found.1, ap (λ (n : ℕ). n % sh.layout.slots) (sym op_is), refl)

    sum : slice_get (map sum_of_message w.view.tail) (op - w.view.checkpoint.content.op - 1) ≡ Some found.0.header.checksum
    sum = slice_get-map sum_of_message w.view.tail (op - w.view.checkpoint.content.op - 1)
        ∙ ap (option_map sum_of_message) (chain_get sh.layout.clients (w.view.checkpoint.content.op + 1) w.view.checkpoint.content.op_checksum 0 w.view.checkpoint.parts.sessions w.view.tail found.0 (op - w.view.checkpoint.content.op - 1) keeps.sense.view.chain found.1 found.2)

-- ---- replies

abbrev pub IsAtClient : ℕ → List Session → Type 0
IsAtClient client ss =
    (s : Session) × (slice_get ss (place_of_client client ss) ≡ Some s) × (s.client ≡ client) × (session_of_client client ss ≡ Some s)

client_case : (client : ℕ) (x : Session) (ss : List Session) (b : Bool) → (x.client == client) ≡ b → is_new
    (if b then Some x else session_of_client client ss) ≡ false → (is_new (session_of_client client ss) ≡ false → IsAtClient client ss)
    → (s : Session) × (slice_get (x ∷ ss) (if b then 0 else suc (place_of_client client ss)) ≡ Some s)
    × (s.client ≡ client) × ((if b then Some x else session_of_client client ss) ≡ Some s)
client_case client x ss true same known more = (x, refl, eqb-true x.client client same, refl)
client_case client x ss false same known more = more known

client_found : (client : ℕ) (ss : List Session) → is_new (session_of_client client ss) ≡ false → IsAtClient client ss
client_found client [] known = absurd (cc)
client_found client (x ∷ ss) known = client_case client x ss (x.client == client) refl known (λ more. client_found client ss more)

pub reply_read_law : ReplyReadLaw
reply_read_law sh codec log damage w client keeps none =
    (place_of_client client (sessions w.view), found.0, stored.0, found.1, found.2, stored.1, answers, ap ToReadReply (answer_is (first_refusal (lookup_refusals (memory_of sh codec.spell w) client)) _ _ stored.0 none (reply_shown _ _ _ stored.0 shows sum)))
  where
    found : IsAtClient client (sessions w.view)
    found = client_found client (sessions w.view) (all_pass (lookup_refusals (memory_of sh codec.spell w) client) none).0

    low : found.0.op ≤ w.view.replies
    low = subst (λ (n : ℕ). n ≤ w.view.replies) (ap last_op found.3) (ltb-false w.view.replies
        (last_op (session_of_client client (sessions w.view))) (all_pass (lookup_refusals (memory_of sh codec.spell w) client) none).1.0)

    stored : (r : Message) × (w.view.stored (place_of_client client (sessions w.view)) ≡ Some r)
    stored = keeps.sense.view.stores (place_of_client client (sessions w.view)) found.0 found.1 low

    answers : Answers found.0 stored.0
    answers = let old = keeps.sense.view.answered (place_of_client client (sessions w.view)) stored.0 stored.1 in subst (λ (s : Session).
        Answers s stored.0) (let e : old.0 ≡ found.0 = (let both : Some old.0 ≡ Some found.0 = sym old.1 ∙ found.1 in cc) in e) old.3

    shows : now log (ReplyPlace (place_of_client client (sessions w.view))) ≡ Some (ReplyUnit stored.0)
    shows = keeps.tidy.rests.holds.bears.needs
        (ReplyPlace (place_of_client client (sessions w.view))) (ReplyUnit stored.0) (stored.0, stored.1, refl)

    sum : joined (slice_get (map (λ k. stored_sum (w.view.stored k)) (range_with_len 0 (length (sessions w.view))))
        (place_of_client client (sessions w.view))) ≡ Some stored.0.header.checksum
    sum = ap joined (get_range (λ k. stored_sum (w.view.stored k))
        0 (length (sessions w.view)) (place_of_client client (sessions w.view)) (place_of_client client (sessions w.view))
        (slice_get_within (sessions w.view) (place_of_client client (sessions w.view)) found.0 found.1) (omega arith))
        ∙ ap stored_sum stored.1

-- ---- blocks

own_shown : (given : Result Block Class) (b : Block) → given ≡ Ok b → 0 < b.kind → no_trailer given ≡ Ok b
own_shown given b is some = ap no_trailer is ∙ ap (λ (e : Bool). given_if e b Stale) (not_zero b.kind some)

pub block_read_law : BlockReadLaw
block_read_law sh codec log damage w a c keeps backed live = let b = backed.live a c live in
    (b.0, b.2, b.1, ap ToReadBlock (answer_is (first_refusal (read_refusals (memory_of sh codec.spell w) a)) _ _ b.0 passes (own_shown _ b.0 (block_shown _ _ _ b.0 b.1 (known ∙ ap Some (sym b.2))) b.3)))
  where
    inside : (0 < a) × (a ≤ sh.layout.blocks)
    inside = keeps.sense.grid a (live_held w a c live)

    known : sum_at a (entries w.live (addresses sh.layout)) ≡ Some c
    known = entry_there w.live 1 sh.layout.blocks a c (omega (arith, inside.0)) (omega (arith, inside.1)) live

    passes : first_refusal (read_refusals (memory_of sh codec.spell w) a) ≡ None
    passes = ap (λ (o : Option ℕ). first_refusal ((not (is_known o), read.NotLive) ∷ [])) known

-- ---- the scrubber

sum_case : (image : Units) (a : ℕ) (x : ℕ × Block) (xs : List (ℕ × Block)) (c : ℕ) (b : Bool)
    → (a == x.0) ≡ b → (if b then Some x.1.checksum else sum_in a xs) ≡ Some c → ((y : Block) → InChain a y (x ∷ xs)
    → image (BlockPlace a) ≡ Some (BlockUnit y)) → (sum_in a xs ≡ Some c → ShowsBlock image a c) → ShowsBlock image a c
sum_case image a x xs c true same is shows more =
    (x.1, shows x.1 (inl (eqb-true a x.0 same, refl)), (let both : Some x.1.checksum ≡ Some c = is in cc))
sum_case image a x xs c false same is shows more = more is

sum_shown : (image : Units) (a : ℕ) (xs : List (ℕ × Block)) (c : ℕ)
    → sum_in a xs ≡ Some c → ((y : Block) → InChain a y xs → image (BlockPlace a) ≡ Some (BlockUnit y)) → ShowsBlock image a c
sum_shown image a [] c is shows = absurd (cc)
sum_shown image a (x ∷ xs) c is shows =
    sum_case image a x xs c (a == x.0) refl is shows (λ more. sum_shown image a xs c more (λ y at. shows y (inr at)))

either_known : (P : ℕ → Type 0) (o p : Option ℕ) (c : ℕ) → or_known o p ≡ Some c → (o ≡ Some c → P c) → (p ≡ Some c → P c) → P c
either_known P (Some d) p c is one two = one is
either_known P None p c is one two = two is

-- each referenced block is shown
pub reference_shown : (sh : Shape) (spell : Parts → List ℕ) (log : UnitLog) (w : Work) (a c : ℕ)
    → IsKeptBy sh spell log w → IsBacked log w → reference_of w a ≡ Some c → ShowsBlock (now log) a c
reference_shown sh spell log w a c keeps backed is = either_known (ShowsBlock (now log) a) (w.live a) (or_known (captured_sum a w.running)
    (or_known (w.view.checkpoint.parts.references a) (sum_in a w.view.checkpoint.chain))) c is (λ here. any (backed.live a c here))
    (λ more. either_known (ShowsBlock (now log) a) (captured_sum a w.running)
    (or_known (w.view.checkpoint.parts.references a) (sum_in a w.view.checkpoint.chain)) c more (captured w.running refl)
    (λ last. either_known (ShowsBlock (now log) a) (w.view.checkpoint.parts.references a) (sum_in a w.view.checkpoint.chain) c last (λ here.
    any (backed.standing.shown a c here)) (λ chained. sum_shown (now log) a w.view.checkpoint.chain c chained (λ y at.
    keeps.tidy.rests.holds.bears.needs (BlockPlace a) (BlockUnit y) (y, at, refl)))))
  where
    any : ShowsOwnBlock (now log) a c → ShowsBlock (now log) a c
    any own = (own.0, own.1, own.2)

    captured : (o : Option Running) → w.running ≡ o → captured_sum a o ≡ Some c → ShowsBlock (now log) a c
    captured None at none = absurd (cc)
    captured (Some r) at some = either_known (ShowsBlock (now log) a) (r.parts.references a) (sum_in a r.written) c some (λ here. any
        (backed.captured r at a c here)) (λ chained. sum_shown (now log) a r.written c chained (λ y there. keeps.written r at a y there))

pub scrub_law : ScrubLaw
scrub_law sh codec log damage w x more keeps backed first =
    ap (λ (xs : List (ℕ × ℕ)). ToScrub (after_check w (first_check (shown_by log damage) xs) xs).1) first
    ∙ ap (λ (v : Verdict). ToScrub (Checked x.0 v)) (ap verdict_of (block_shown (Some x.1) _ _ shows.0 shows.1 (ap Some (sym shows.2))))
  where
    known : reference_of w x.0 ≡ Some x.1
    known = filtered_each (λ (y : ℕ × ℕ). reference_of w y.0 ≡ Some y.1) (λ y.
        nat_lt w.tour.last y.0) (referenced_in sh.layout (blocks_of sh w)) x more (within (λ (y : ℕ × ℕ). reference_of w y.0
        ≡ Some y.1) (reference_in (blocks_of sh w)) 1 sh.layout.blocks (λ a c from to is. sym (reference_is sh w a from to) ∙ is)) first

    shows : ShowsBlock (now log) x.0 x.1
    shows = reference_shown sh codec.spell log w x.0 x.1 keeps backed known
