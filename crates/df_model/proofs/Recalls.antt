-- How commands change what is in memory, the grid aside.
use Rattle.std.{proofs.{Common.{◌≡◌, inl, inr, ℕ, zero, suc, ◌+◌, ◌-◌, ◌<◌, ◌≤◌, ◌==◌, nat_lt, Bool, true, false, if◌then◌else◌, List, [], ◌∷◌, ◌++◌, length, drop, map, Option, Some, None, refl, sym, ◌∙◌, ap, arith, length-append}, lemmas.Bool.Decides.{nat_tests}, lemmas.Bool.{cases_lt}, lemmas.List.{drop-map, map-append}}, specs.{Prelude.{slice_set}, List.{range_with_len, slice_get}}}
use Rattle.df_theory.{specs.{Units.{Header, Message, Parts, Session}, Sessions.{noted, session_of_header, sessions_after}, Tails.{last_checksum}, Shape.{Shape}, View.{View, head, sessions}, Next.{AreInTurn, appended, checkpointed, kept as kept_at}}, proofs.Laws.{noted_get, sessions-append, tracks, last_checksum-append}}
use Rattle.df_model.{specs.{Work.{Request, Running, Work}, Blocks.{Blocks, blocks_of}, Memory.{Memory, course, course_of, memory_of, stored_sum, sum_of_message}, Refusals.{append_refusals, begin_refusals, block_refusals, first_refusal, flush_refusals, release_refusals, reply_refusals, stage_refusals}, Making.{group_of, needed_of, next_address, place_of_reply, prepare_of, reply_of}, After.{after_check, after_running, after_step_of, begun, checkpoint_of, finished, next_trailer, outcome, to_check, with_group, with_live, with_prepare, with_reply, with_running, with_staged, with_trailer_block}, Commands.{Advance, Append, Begin, Command, Flush, Given, Release, Reply, Scrub, Stage, WriteBlock, after, supplied_sum, supplied_sums, supplied_verdict}, Changing.{ChangeLaw, ListsLaw, appended_in, blocks_after, checked_in, course_on, flushed_in, memory_after, replied_in, staged_in, step_in, unless_refused, unstored, unstored_all}, Sense.{IsWork}, declared.answers.Verdict.{Verdict}, declared.answers.Verdict.TheVariants.{Sound, Failing}}, proofs.{Recording.{last_split}, Changing.{blocks_law}, Entries.{held_is, reference_is}, Groups.{in_turn}, Finishes.{head_same, same_sessions}}}

pub lists_law : ListsLaw
lists_law sh w a inside = (held_is sh w a (omega (arith, inside.0)) (omega (arith, inside.1)), reference_is sh w a (omega (arith, inside.0)) (omega (arith, inside.1)))

-- ---- lists over a range

map_same : {X : Type 0} (f g : ℕ → X) (s n : ℕ) → ((k : ℕ) → s ≤ k → f k ≡ g k) → map f (range_with_len s n) ≡ map g (range_with_len s n)
map_same f g s zero same = refl
map_same f g s (suc n) same = ap (λ x. x ∷ map f (range_with_len (s + 1) n)) (same s (omega arith))
    ∙ ap (λ l. g s ∷ l) (map_same f g (s + 1) n (λ k from. same k (omega arith)))

-- one of them changes
map_set : {X : Type 0} (f g : ℕ → X) (x : X) (s n p : ℕ)
    → ((k : ℕ) → (k ≡ s + p → ⊥) → f k ≡ g k) → f (s + p) ≡ x → map f (range_with_len s n) ≡ slice_set (map g (range_with_len s n)) p x
map_set f g x s zero p apart_same there = refl
map_set f g x s (suc n) zero apart_same there =
    ap (λ y. y ∷ map f (range_with_len (s + 1) n)) (ap f (let e : s ≡ s + 0 = omega arith in e) ∙ there)
    ∙ ap (λ l. x ∷ l) (map_same f g (s + 1) n (λ k from. apart_same k (λ same. omega arith)))
map_set f g x s (suc n) (suc p) apart_same there = ap (λ y. y ∷ map f (range_with_len (s + 1) n)) (apart_same s (λ same. omega arith))
    ∙ ap (λ l. g s ∷ l) (map_set f g x (s + 1) n p (λ k apart.
    apart_same k (λ same. apart (omega arith))) (ap f (let e : s + 1 + p ≡ s + suc p = omega arith in e) ∙ there))

-- ---- stored replies after a request

kept_old : (top : ℕ) (o : Option Session) (s : Session) (old : Option Message) → o ≡ Some s → s.op ≤ top → kept_at o top old ≡ old
kept_old top o s old is low = ap (λ (t : Option Session). kept_at t top old) is ∙ go (nat_lt top s.op) refl
  where
    go : (b : Bool) → nat_lt top s.op ≡ b → (if b then None else old) ≡ old
    go true is_above = absurd (grind (arith, nat_tests))
    go false is_above = refl

kept_new : (top : ℕ) (o : Option Session) (s : Session) (old : Option Message) → o ≡ Some s → top < s.op → kept_at o top old ≡ None
kept_new top o s old is high = ap (λ (t : Option Session). kept_at t top old) is ∙ go (nat_lt top s.op) refl
  where
    go : (b : Bool) → nat_lt top s.op ≡ b → (if b then None else old) ≡ None
    go true is_above = refl
    go false is_above = absurd (grind (arith, nat_tests))

module _ (h : Header) (top : ℕ) (above : top < h.op) (st : ℕ → Option Message) where
  -- what is kept where this is the session at a place
  abbrev keep : (ℕ → Option Session) → ℕ → Option ℕ
  keep get k = stored_sum (kept_at (get k) top (st k))

  abbrev old : ℕ → Option ℕ
  old k = stored_sum (st k)

  abbrev Gets : (ℕ → Option Session) → ℕ → List Session → Type 0
  Gets get i ss = (j : ℕ) → get (i + j) ≡ slice_get ss j

  abbrev AreLow : List Session → Type 0
  AreLow ss = (k : ℕ) (s : Session) → slice_get ss k ≡ Some s → s.op ≤ top

  first_of : (get : ℕ → Option Session) (i : ℕ) (s : Session) (ss : List Session) → Gets get i (s ∷ ss) → get i ≡ Some s
  first_of get i s ss gets = ap get (let e : i ≡ i + 0 = omega arith in e) ∙ gets 0

  rest_of : (get : ℕ → Option Session) (i : ℕ) (s : Session) (ss : List Session) → Gets get i (s ∷ ss) → Gets get (i + 1) ss
  rest_of get i s ss gets j = ap get (let e : i + 1 + j ≡ i + suc j = omega arith in e) ∙ gets (suc j)

  all_old : (get : ℕ → Option Session) (ss : List Session) (i : ℕ)
      → Gets get i ss → AreLow ss → map (keep get) (range_with_len i (length ss)) ≡ map old (range_with_len i (length ss))
  all_old get [] i gets low = refl
  all_old get (s ∷ ss) i gets low = ap (λ (x : Option ℕ). x ∷ map (keep get) (range_with_len (i + 1) (length ss)))
      (ap stored_sum (kept_old top (get i) s (st i) (first_of get i s ss gets) (low 0 s refl)))
      ∙ ap (λ (l : List (Option ℕ)). old i ∷ l) (all_old get ss (i + 1) (rest_of get i s ss gets) (λ k t at. low (suc k) t at))

  one_new : (get : ℕ → Option Session) (i : ℕ) (ss : List Session) → Gets get i (session_of_header h ∷ ss) → keep get i ≡ None
  one_new get i ss gets = ap stored_sum (kept_new top (get i) (session_of_header h) (st i) (first_of get i (session_of_header h) ss gets) above)

  noted_case : (get : ℕ → Option Session) (s : Session) (ss : List Session) (i : ℕ) (b : Bool)
      → Gets get i (if b then session_of_header h ∷ ss else s ∷ noted h ss) → AreLow (s ∷ ss) → (Gets get (i + 1) (noted h ss)
      → map (keep get) (range_with_len (i + 1) (length (noted h ss))) ≡ unstored h.client ss (map old (range_with_len (i + 1) (length ss))))
      → map (keep get) (range_with_len i (length (if b then session_of_header h ∷ ss else s ∷ noted h ss))) ≡ (if b then None
      ∷ map old (range_with_len (i + 1) (length ss)) else old i ∷ unstored h.client ss (map old (range_with_len (i + 1) (length ss))))
  noted_case get s ss i true gets low more =
      ap (λ (x : Option ℕ). x ∷ map (keep get) (range_with_len (i + 1) (length ss))) (one_new get i ss gets) ∙ ap (λ (l : List (Option ℕ)).
      None ∷ l) (all_old get ss (i + 1) (rest_of get i (session_of_header h) ss gets) (λ k t at. low (suc k) t at))
  noted_case get s ss i false gets low more = ap (λ (x : Option ℕ). x ∷ map (keep get) (range_with_len (i + 1) (length (noted h ss))))
      (ap stored_sum (kept_old top (get i) s (st i) (first_of get i s (noted h ss) gets) (low 0 s refl)))
      ∙ ap (λ (l : List (Option ℕ)). old i ∷ l) (more (rest_of get i s (noted h ss) gets))

  noted_is : (get : ℕ → Option Session) (ss : List Session) (i : ℕ) → Gets get i (noted h ss)
      → AreLow ss → map (keep get) (range_with_len i (length (noted h ss))) ≡ unstored h.client ss (map old (range_with_len i (length ss)))
  noted_is get [] i gets low = ap (λ (x : Option ℕ). x ∷ []) (one_new get i [] gets)
  noted_is get (s ∷ ss) i gets low =
      noted_case get s ss i (s.client == h.client) gets low (λ rest. noted_is get ss (i + 1) rest (λ k t at. low (suc k) t at))

-- ---- stored replies after a group

-- a session of an earlier op stood there before
earlier_get : (op parent : ℕ) (ps : List Message) (ss : List Session) (k : ℕ) (s : Session)
    → AreInTurn op parent ps → s.op < op → slice_get (sessions_after ss ps) k ≡ Some s → slice_get ss k ≡ Some s
earlier_get op parent [] ss k s turn low at = at
earlier_get op parent (p ∷ ps) ss k s turn low at =
    elim (noted_get p.header ss k s (earlier_get (op + 1) p.header.checksum ps (noted p.header ss) k s turn.2 (omega (arith, low)) at)) [
      | inl new ↦ absurd (omega (arith, low, turn.0, ap (λ (x : Session). x.op) new))
      | inr old ↦ old
    ]

-- what a group keeps is what its first prepare keeps, and the others of that
kept_twice : (op parent : ℕ) (ps : List Message) (ss : List Session) (top k : ℕ) (old : Option Message)
    → top ≤ op → AreInTurn (op + 1) parent ps
    → kept_at (slice_get (sessions_after ss ps) k) top old ≡ kept_at (slice_get (sessions_after ss ps) k) op (kept_at (slice_get ss k) top old)
kept_twice op parent ps ss top k old above turn = go (slice_get (sessions_after ss ps) k) refl
  where
    before : Option Message
    before = kept_at (slice_get ss k) top old

    go : (o : Option Session) → slice_get (sessions_after ss ps) k ≡ o → kept_at o top old ≡ kept_at o op before
    go None at = refl
    go (Some s) at = elim (cases_lt op s.op) [
      | inl high ↦ kept_new top (Some s) s old refl (omega (arith, high, above)) ∙ sym (kept_new op (Some s) s before refl high)
      | inr low ↦ ap (λ (o : Option Session). kept_at o top old) (sym (earlier_get (op + 1) parent ps ss k s turn (omega (arith, low)) at))
          ∙ sym (kept_old op (Some s) s before refl low)
    ]

group_is : (top parent : ℕ) (ps : List Message) (ss : List Session) (st : ℕ → Option Message)
    → AreInTurn (top + 1) parent ps → ((k : ℕ) (s : Session) → slice_get ss k ≡ Some s → s.op ≤ top)
    → map (λ k. stored_sum (kept_at (slice_get (sessions_after ss ps) k) top (st k))) (range_with_len 0 (length (sessions_after ss ps)))
    ≡ unstored_all ss ps (map (λ k. stored_sum (st k)) (range_with_len 0 (length ss)))
group_is top parent [] ss st turn low = all_kept ss 0 (λ j. ap (slice_get ss) (let e : 0 + j ≡ j = omega arith in e)) low
  where
    -- nothing is later than the head
    all_kept : (rest : List Session) (i : ℕ)
        → ((j : ℕ) → slice_get ss (i + j) ≡ slice_get rest j) → ((k : ℕ) (s : Session) → slice_get rest k ≡ Some s → s.op ≤ top)
        → map (λ k. stored_sum (kept_at (slice_get ss k) top (st k))) (range_with_len i (length rest))
        ≡ map (λ k. stored_sum (st k)) (range_with_len i (length rest))
    all_kept [] i gets under = refl
    all_kept (s ∷ rest) i gets under =
        let here : slice_get ss i ≡ Some s = ap (slice_get ss) (let e : i ≡ i + 0 = omega arith in e) ∙ gets 0 in
        ap (λ (x : Option ℕ). x ∷ map (λ k. stored_sum (kept_at (slice_get ss k) top (st k))) (range_with_len (i + 1) (length rest)))
        (ap stored_sum (kept_old top (slice_get ss i) s (st i) here (under 0 s refl)))
        ∙ ap (λ (l : List (Option ℕ)). stored_sum (st i) ∷ l) (all_kept rest (i + 1) (λ j.
        ap (slice_get ss) (let e : i + 1 + j ≡ i + suc j = omega arith in e) ∙ gets (suc j)) (λ k t at. under (suc k) t at))
group_is top parent (p ∷ ps) ss st turn low = let one = noted p.header ss in
    let kept_one : ℕ → Option Message = λ k. kept_at (slice_get one k) top (st k) in let last = sessions_after one ps in
    map_same (λ k. stored_sum (kept_at (slice_get last k) top (st k))) (λ k. stored_sum (kept_at (slice_get last k) (top + 1) (kept_one k)))
    0 (length last) (λ k from. ap stored_sum (kept_twice (top + 1) p.header.checksum ps one top k (st k) (omega arith) turn.2))
    ∙ group_is (top + 1) p.header.checksum ps one kept_one turn.2 (λ k s at. elim (noted_get
    p.header ss k s at) [ inl new ↦ omega (arith, turn.0, ap (λ (x : Session). x.op) new) | inr old ↦ omega (arith, low k s old) ])
    ∙ ap (unstored_all one ps) (noted_is p.header top (omega (arith, turn.0)) st (slice_get one) ss 0 (λ j.
    ap (slice_get one) (let e : 0 + j ≡ j = omega arith in e)) low)

-- ---- the tail

last_more : (c : ℕ) (ps : List Message) (p : Message) → last_checksum c (ps ++ p ∷ []) ≡ p.header.checksum
last_more c [] p = refl
last_more c (x ∷ ps) p = last_more x.header.checksum ps p

-- ---- the commands

outcome_memory : {E A : Type 0} (sh : Shape) (spell : Parts → List ℕ) (o : Option E) (w u : Work) (answer : A) (later : Memory) (b : Blocks)
    → blocks_of sh (outcome o w u answer).0 ≡ b → (o ≡ None → record (memory_of sh spell u) { blocks = b } ≡ record later { blocks = b })
    → memory_of sh spell (outcome o w u answer).0 ≡ record (unless_refused o (memory_of sh spell w) later) { blocks = b }
outcome_memory sh spell (Some e) w u answer later b blocks is = ap (λ (x : Blocks). record (memory_of sh spell w) { blocks = x }) blocks
outcome_memory sh spell None w u answer later b blocks is = ap (λ (x : Blocks). record (memory_of sh spell u) { blocks = x }) blocks ∙ is refl

same_unless : {E : Type 0} (o : Option E) (m : Memory) (b : Blocks) → record (unless_refused o m m) { blocks = b } ≡ record m { blocks = b }
same_unless (Some e) m b = refl
same_unless None m b = refl

module _ (sh : Shape) (spell : Parts → List ℕ) (w : Work) (given : Given) (work : IsWork sh spell w) where
  abbrev m : Memory
  m = memory_of sh spell w

  abbrev v : View
  v = w.view

  appended_memory : (client request : ℕ) (body : List ℕ) (b : Blocks)
      → record (memory_of sh spell (with_prepare w (prepare_of m (supplied_sum given) client request body))) { blocks = b }
      ≡ record (appended_in m (prepare_of m (supplied_sum given) client request body)) { blocks = b }
  appended_memory client request body b = let p = prepare_of m (supplied_sum given) client request body in let u = appended v (p ∷ []) in
      let stored = map (λ k. stored_sum (u.stored k)) (range_with_len 0 (length (sessions u))) in
      let noted_now : sessions u ≡ noted p.header (sessions v) = sessions-append v.checkpoint.parts.sessions v.tail (p ∷ []) in
      let T : ℕ → ℕ → List Session → List ℕ → List (Option ℕ) → Memory = λ h c ss ps st. record m { blocks = b; head = h; head_checksum = c; sessions = ss; prepares = ps; stored = st; waiting = w.waiting ++ p.header.checksum ∷ [] } in
      let sums = map sum_of_message (v.tail ++ p ∷ []) in let last = last_checksum v.checkpoint.content.op_checksum (v.tail ++ p ∷ []) in
      ap (λ (h : ℕ). T h last (sessions u) sums stored) (let e : head u ≡ head v + 1 = omega (arith, length-append v.tail (p ∷ [])) in e)
      ∙ ap (λ (c : ℕ). T (head v + 1) c (sessions u) sums stored) (last_more v.checkpoint.content.op_checksum v.tail p)
      ∙ ap (λ (ss : List Session). T (head v + 1) (supplied_sum given) ss sums stored) noted_now ∙ ap (λ (ps : List ℕ).
      T (head v + 1) (supplied_sum given) (noted p.header (sessions v)) ps stored) (map-append sum_of_message v.tail (p ∷ []))
      ∙ ap (λ (st : List (Option ℕ)).
      T (head v + 1) (supplied_sum given) (noted p.header (sessions v)) (map sum_of_message v.tail ++ (supplied_sum given) ∷ []) st) (
      ap (λ (n : ℕ). map (λ k. stored_sum (u.stored k)) (range_with_len 0 n)) (ap length noted_now)
      ∙ noted_is p.header (head v) (omega arith) v.stored (slice_get (sessions u)) (sessions v) 0 (λ j. ap (slice_get (sessions u))
      (let e : 0 + j ≡ j = omega arith in e) ∙ ap (λ (ss : List Session). slice_get ss j) noted_now) (tracks sh v work.view).below
      )

  flushed_memory : (sums : List ℕ) (b : Blocks)
      → record (memory_of sh spell (with_group w (group_of m sums))) { blocks = b } ≡ record (flushed_in m (group_of m sums)) { blocks = b }
  flushed_memory sums b = let ps = group_of m sums in let u = appended v ps in
      let stored = map (λ k. stored_sum (u.stored k)) (range_with_len 0 (length (sessions u))) in
      let noted_now : sessions u ≡ sessions_after (sessions v) ps = sessions-append v.checkpoint.parts.sessions v.tail ps in
      let T : ℕ → ℕ → List Session → List ℕ → List (Option ℕ) → Memory = λ h c ss qs st. record m { blocks = b; head = h; head_checksum = c; sessions = ss; prepares = qs; stored = st; waiting = w.waiting ++ map sum_of_message ps; staged = [] } in
      let all = map sum_of_message (v.tail ++ ps) in let last = last_checksum v.checkpoint.content.op_checksum (v.tail ++ ps) in
      let turn = in_turn m (head v + 1) (head v + length w.staged) (head v + 1) m.head_checksum w.staged sums in
      ap (λ (h : ℕ). T h last (sessions u) all stored) (let e : head u ≡ head v + length ps = omega (arith, length-append v.tail ps) in e)
      ∙ ap (λ (c : ℕ). T (head v + length ps) c (sessions u) all stored) (last_checksum-append v.checkpoint.content.op_checksum v.tail ps)
      ∙ ap (λ (ss : List Session). T (head v + length ps) (last_checksum m.head_checksum ps) ss all stored) noted_now
      ∙ ap (λ (qs : List ℕ). T (head v + length ps) (last_checksum m.head_checksum ps) (sessions_after (sessions v) ps) qs stored)
      (map-append sum_of_message v.tail ps) ∙ ap (λ (st : List (Option ℕ)). T (head v + length ps)
      (last_checksum m.head_checksum ps) (sessions_after (sessions v) ps) (map sum_of_message v.tail ++ map sum_of_message ps) st) (
      ap (λ (ss : List Session). map (λ k. stored_sum (kept_at (slice_get ss k) (head v) (v.stored k))) (range_with_len 0 (length ss))) noted_now
      ∙ group_is (head v) m.head_checksum ps (sessions v) v.stored turn (tracks sh v work.view).below
      )

  replied_memory : (body : List ℕ) (b : Blocks) → record (memory_of sh spell (with_reply w
      (place_of_reply m) (reply_of m (supplied_sum given) body))) { blocks = b } ≡ record (replied_in m (supplied_sum given)) { blocks = b }
  replied_memory body b = let place = place_of_reply m in let r = reply_of m (supplied_sum given) body in
      ap (λ (st : List (Option ℕ)). record m { blocks = b; replies = m.replies + 1; stored = st; waiting = drop 1 m.waiting })
      (map_set (λ k. stored_sum (if k == place then Some r else v.stored k)) (λ k.
      stored_sum (v.stored k)) (Some (supplied_sum given)) 0 (length (sessions v)) place (λ k apart.
      ap stored_sum (not_there k place r (λ same. apart (omega arith)))) (ap stored_sum (is_there (0 + place) place r (omega arith))))
    where
      not_there : (k place : ℕ) (r : Message) → (k ≡ place → ⊥) → (if k == place then Some r else w.view.stored k) ≡ w.view.stored k
      not_there k place r apart = go (k == place) refl
        where
          go : (e : Bool) → (k == place) ≡ e → (if e then Some r else w.view.stored k) ≡ w.view.stored k
          go true is = absurd (apart (grind (arith, nat_tests)))
          go false is = refl

      is_there : (k place : ℕ) (r : Message) → k ≡ place → (if k == place then Some r else w.view.stored k) ≡ Some r
      is_there k place r same = go (k == place) refl
        where
          go : (e : Bool) → (k == place) ≡ e → (if e then Some r else w.view.stored k) ≡ Some r
          go true is = refl
          go false is = absurd (grind (arith, nat_tests))

  finished_memory : (r : Running) (b : Blocks) → w.running ≡ Some r → r.left ≡ [] → record (memory_of sh spell (finished
      sh spell w r (supplied_sum given))) { blocks = b } ≡ record (course_on m (supplied_sum given) (course spell r) []) { blocks = b }
  finished_memory r b at done = let is = work.running r at in let c = checkpoint_of sh spell w r (supplied_sum given) in
      let u = checkpointed v c in let n = r.op - v.checkpoint.content.op in
      let T : ℕ → ℕ → List Session → List ℕ → List (Option ℕ) → Memory = λ h k ss ps st. record m { blocks = b; content = c.content; root = r.parts.root; head = h; head_checksum = k; sessions = ss; prepares = ps; stored = st; running = None } in
      let stored : ℕ → List (Option ℕ) = λ k. map (λ i. stored_sum (v.stored i)) (range_with_len 0 k) in
      let same = same_sessions sh spell w r (supplied_sum given) work is done in
      ap (λ (h : ℕ). T h (last_checksum r.op_checksum (drop n v.tail)) (sessions u)
      (map sum_of_message (drop n v.tail)) (stored (length (sessions u)))) (head_same sh spell w r (supplied_sum given) work is done)
      ∙ ap (λ (k : ℕ). T (head v) k (sessions u) (map sum_of_message (drop n v.tail)) (stored (length (sessions u))))
      (ap (λ (k : ℕ). last_checksum k (drop n v.tail)) is.op_checksum ∙ last_split n v.checkpoint.content.op_checksum v.tail)
      ∙ ap (λ (ss : List Session). T (head v) m.head_checksum ss (map sum_of_message (drop n v.tail)) (stored (length ss))) same
      ∙ ap (λ (ps : List ℕ). T (head v) m.head_checksum (sessions v) ps (stored (length (sessions v)))) (sym (drop-map sum_of_message n v.tail))

  trailer_memory : (r : Running) (a : ℕ) (more : List ℕ) (b : Blocks)
      → record (memory_of sh spell (with_trailer_block w r a (next_trailer sh spell w r (supplied_sum given)) more)) { blocks = b }
      ≡ record (course_on m (supplied_sum given) (course spell r) (a ∷ more)) { blocks = b }
  trailer_memory r a more b = ap (λ (n : ℕ). record
      m { blocks = b; running = Some (record (course spell r) { count = n; last = a; last_checksum = supplied_sum given; left = more }) })
      (let e : suc (length r.written) ≡ length r.written + 1 = omega arith in e)

  running_memory : (r : Running) (l : List ℕ) (b : Blocks) → w.running ≡ Some r → r.left ≡ l → record (memory_of sh spell (after_running
      sh spell w (supplied_sum given) r l).0) { blocks = b } ≡ record (course_on m (supplied_sum given) (course spell r) l) { blocks = b }
  running_memory r [] b at left = finished_memory r b at left
  running_memory r (a ∷ more) b at left = trailer_memory r a more b

  step_memory : (o : Option Running) (b : Blocks) → w.running ≡ o → record (memory_of sh spell (after_step_of
      sh spell w (supplied_sum given) o).0) { blocks = b } ≡ record (step_in m (supplied_sum given) (course_of spell o)) { blocks = b }
  step_memory None b at = refl
  step_memory (Some r) b at = running_memory r r.left b at refl

  check_memory : (verdict : Verdict) (xs : List (ℕ × ℕ)) (b : Blocks)
      → record (memory_of sh spell (after_check w verdict xs).0) { blocks = b } ≡ record (checked_in m verdict xs) { blocks = b }
  check_memory Sound [] b = refl
  check_memory (Failing kind) [] b = refl
  check_memory Sound (x ∷ more) b = refl
  check_memory (Failing kind) (x ∷ more) b = refl

  -- where the grid is right, the rest is
  rightly : (u : Work) (later : Memory) (b : Blocks) → blocks_of sh u ≡ b
      → record (memory_of sh spell u) { blocks = b } ≡ record later { blocks = b } → memory_of sh spell u ≡ record later { blocks = b }
  rightly u later b blocks is = ap (λ (x : Blocks). record (memory_of sh spell u) { blocks = x }) blocks ∙ is

  pub change_is : (c : Command) → memory_of sh spell (after sh spell w given c).0 ≡ memory_after spell m given c
  change_is (Append client request body) = let p = prepare_of m (supplied_sum given) client request body in
      let b = blocks_after spell m given (Append client request body) in
      outcome_memory sh spell (first_refusal (append_refusals m client request body)) w (with_prepare w p) (p.header.op, supplied_sum given)
      (appended_in m p) b (blocks_law sh spell w given (Append client request body)) (λ none. appended_memory client request body b)
  change_is (Stage client request body) = let b = blocks_after spell m given (Stage client request body) in
      let r : Request = record { client = client; request = request; body = body } in
      outcome_memory sh spell (first_refusal (stage_refusals m client request body)) w (with_staged w r)
      (m.head + length m.staged + 1) (staged_in m r) b (blocks_law sh spell w given (Stage client request body)) (λ none. refl)
  change_is Flush = let b = blocks_after spell m given Flush in let ps = group_of m (supplied_sums given) in
      outcome_memory sh spell (first_refusal (flush_refusals m)) w (with_group w ps)
      (length m.staged) (flushed_in m ps) b (blocks_law sh spell w given Flush) (λ none. flushed_memory (supplied_sums given) b)
  change_is (Reply op body) = let b = blocks_after spell m given (Reply op body) in
      outcome_memory sh spell (first_refusal (reply_refusals m op body))
      w (with_reply w (place_of_reply m) (reply_of m (supplied_sum given) body)) (supplied_sum given)
      (replied_in m (supplied_sum given)) b (blocks_law sh spell w given (Reply op body)) (λ none. replied_memory body b)
  change_is (WriteBlock kind body) = let a = next_address m in let b = blocks_after spell m given (WriteBlock kind body) in
      outcome_memory sh spell (first_refusal (block_refusals m kind body)) w (with_live w a (Some (supplied_sum given)))
      (a, supplied_sum given) m b (blocks_law sh spell w given (WriteBlock kind body)) (λ none. refl)
      ∙ same_unless (first_refusal (block_refusals m kind body)) m b
  change_is (Release address) = let b = blocks_after spell m given (Release address) in
      outcome_memory {A = Unit {0}} sh spell (first_refusal (release_refusals m address))
      w (with_live w address None) tt m b (blocks_law sh spell w given (Release address)) (λ none. refl)
      ∙ same_unless (first_refusal (release_refusals m address)) m b
  change_is (Begin root) = let b = blocks_after spell m given (Begin root) in let needed = needed_of spell m root in
      outcome_memory sh spell (first_refusal (begin_refusals m needed root))
      w (with_running w (Some (begun sh spell w root))) needed _ b (blocks_law sh spell w given (Begin root)) (λ none. refl)
  change_is Advance =
      rightly (after_step_of sh spell w (supplied_sum given) w.running).0 (step_in m (supplied_sum given) m.running) (blocks_after
      spell m given Advance) (blocks_law sh spell w given Advance) (step_memory w.running (blocks_after spell m given Advance) refl)
  change_is Scrub = rightly (after_check w (supplied_verdict given) (to_check m)).0
      (checked_in m (supplied_verdict given) (to_check m)) (blocks_after spell m given Scrub)
      (blocks_law sh spell w given Scrub) (check_memory (supplied_verdict given) (to_check m) (blocks_after spell m given Scrub))
  change_is command = refl

pub change_law : ChangeLaw
change_law sh spell w given c work = change_is sh spell w given work c
