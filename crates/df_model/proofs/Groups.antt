-- Prepares of one group, and that what is staged stays so.
use Rattle.std.proofs.Common.{◌≡◌, inl, inr, ℕ, ◌+◌, ◌≤◌, ◌==◌, if◌then◌else◌, List, [], ◌∷◌, ◌++◌, length, drop, refl, sym, ◌∙◌, ap, subst, arith}
use Rattle.df_theory.specs.{Units.{Header, Message, Session}, Sessions.{MayAsk, noted, session_of_header, sessions_after}, Tails.{In}, Shape.{Shape, clients}, View.{View, head, sessions}, Holds.{Sound}, Next.{AreInTurn, MayAskInTurn}}
use Rattle.df_model.specs.{Work.{Request}, Codec.{AreLawful}, Memory.{Memory}, Making.{first_of, prepare_in, prepares_in}, Sense.{AreStaged}}

-- ---- what sessions go by

-- a table notes a header by its session
pub noted_alike : (g h : Header) (ss : List Session) → session_of_header g ≡ session_of_header h → noted g ss ≡ noted h ss
noted_alike g h [] same = ap (λ (s : Session). s ∷ []) same
noted_alike g h (x ∷ ss) same = λ i. if x.client == (same i).client then same i ∷ ss else x ∷ noted_alike g h ss same i

-- who may ask may do so with a later mark
pub ask_on : (room : ℕ) (g h : Header) (ss : List Session)
    → g.client ≡ h.client → g.request ≡ h.request → g.mark ≤ h.mark → MayAsk room g ss → MayAsk room h ss
ask_on room g h [] client request mark may = (sym request ∙ may.0, may.1)
ask_on room g h (x ∷ ss) client request mark (inl here) = inl (here.0 ∙ client, sym request ∙ here.1, omega (arith, here.2, mark))
ask_on room g h (x ∷ ss) client request mark (inr there) =
    inr (λ same. there.0 (same ∙ sym client), there.1, there.2, ask_on there.1 g h ss client request mark there.3)

-- ---- two groups of the same requests

module _ (m n : Memory) (f l g k : ℕ) where
  -- the same sessions
  same_session : (op o p q s t : ℕ) (r : Request)
      → op ≡ o → session_of_header (prepare_in m f l op p s r).header ≡ session_of_header (prepare_in n g k o q t r).header
  same_session op o p q s t r same = λ i. record { client = r.client; request = r.request; op = same i }

  pub alike_sessions : (op o p q : ℕ) (rs : List Request) (s t : List ℕ) (ss : List Session)
      → op ≡ o → sessions_after ss (prepares_in m f l op p rs s) ≡ sessions_after ss (prepares_in n g k o q rs t)
  alike_sessions op o p q [] s t ss same = refl
  alike_sessions op o p q (r ∷ rs) s t ss same = let one = (prepare_in m f l op p (first_of s) r).header in
      let two = (prepare_in n g k o q (first_of t) r).header in
      alike_sessions (op + 1) (o + 1) (first_of s) (first_of t) rs (drop 1 s) (drop 1 t) (noted one ss) (ap (λ (x : ℕ). x + 1) same)
      ∙ ap (λ (x : List Session). sessions_after x (prepares_in n g k (o + 1) (first_of t) rs (drop 1 t)))
      (noted_alike one two ss (same_session op o p q (first_of s) (first_of t) r same))

  -- and asked by the same clients
  pub alike_asks : (places op o p q : ℕ) (rs : List Request) (s t : List ℕ) (ss : List Session) → op ≡ o
      → m.replies ≤ n.replies → MayAskInTurn places ss (prepares_in m f l op p rs s) → MayAskInTurn places ss (prepares_in n g k o q rs t)
  alike_asks places op o p q [] s t ss same later asks = tt
  alike_asks places op o p q (r ∷ rs) s t ss same later asks = let one = (prepare_in m f l op p (first_of s) r).header in
      let two = (prepare_in n g k o q (first_of t) r).header in (
        ask_on places one two ss refl refl later asks.0,
        rw (noted_alike one two ss (same_session op o p q (first_of s) (first_of t) r same)) at (alike_asks places
            (op + 1) (o + 1) (first_of s) (first_of t) rs (drop 1 s) (drop 1 t) (noted one ss) (ap (λ (x : ℕ). x + 1) same) later asks.1),
      )

-- ---- one group

module _ (m : Memory) (f l : ℕ) where
  pub length_in : (op p : ℕ) (rs : List Request) (s : List ℕ) → length (prepares_in m f l op p rs s) ≡ length rs
  length_in op p [] s = refl
  length_in op p (r ∷ rs) s = omega (arith, length_in (op + 1) (first_of s) rs (drop 1 s))

  pub in_turn : (op p : ℕ) (rs : List Request) (s : List ℕ) → AreInTurn op p (prepares_in m f l op p rs s)
  in_turn op p [] s = tt
  in_turn op p (r ∷ rs) s = (refl, refl, in_turn (op + 1) (first_of s) rs (drop 1 s))

  -- each of them has these numbers
  pub record IsMember (h : Header) : Type 0 where
    pub mark : h.mark ≡ m.replies
    pub checkpoint : h.checkpoint ≡ m.content.sequence
    pub boot : h.boot ≡ m.content.boot
    pub group : h.group ≡ f
    pub group_last : h.group_last ≡ l

  pub member : (op p : ℕ) (rs : List Request) (s : List ℕ) (q : Message) → In q (prepares_in m f l op p rs s) → IsMember q.header
  member op p [] s q at = absurd at
  member op p (r ∷ rs) s q (inl here) = subst (λ (x : Message).
      IsMember x.header) (sym here) (record { mark = refl; checkpoint = refl; boot = refl; group = refl; group_last = refl })
  member op p (r ∷ rs) s q (inr there) = member (op + 1) (first_of s) rs (drop 1 s) q there

  -- with a request more
  pub asks_more : (places op p : ℕ) (rs : List Request) (r : Request) (s : List ℕ) (ss : List Session) → MayAskInTurn places
      ss (prepares_in m f l op p rs s) → MayAsk places (prepare_in m f l 0 0 0 r).header (sessions_after ss (prepares_in m f l op p rs s))
      → MayAskInTurn places ss (prepares_in m f l op p (rs ++ r ∷ []) s)
  asks_more places op p [] r s ss asks may =
      (ask_on places (prepare_in m f l 0 0 0 r).header (prepare_in m f l op p (first_of s) r).header ss refl refl (omega arith) may, tt)
  asks_more places op p (x ∷ rs) r s ss asks may =
      (asks.0, asks_more places (op + 1) (first_of s) rs r (drop 1 s) (noted (prepare_in m f l op p (first_of s) x).header ss) asks.1 may)

  -- and what the last of them then asks
  pub asks_behind : (places op p : ℕ) (rs : List Request) (r : Request) (s : List ℕ) (ss : List Session)
      → MayAskInTurn places ss (prepares_in m f l op p (rs ++ r ∷ []) s)
      → MayAsk places (prepare_in m f l 0 0 0 r).header (sessions_after ss (prepares_in m f l op p rs s))
  asks_behind places op p [] r s ss asks =
      ask_on places (prepare_in m f l op p (first_of s) r).header (prepare_in m f l 0 0 0 r).header ss refl refl (omega arith) asks.0
  asks_behind places op p (x ∷ rs) r s ss asks =
      asks_behind places (op + 1) (first_of s) rs r (drop 1 s) (noted (prepare_in m f l op p (first_of s) x).header ss) asks.1

  pub sessions_more : (op p o : ℕ) (rs : List Request) (r : Request) (s : List ℕ) (ss : List Session) → op + length rs ≡ o
      → sessions_after ss (prepares_in m f l op p (rs ++ r ∷ []) s)
      ≡ noted (prepare_in m f l o 0 0 r).header (sessions_after ss (prepares_in m f l op p rs s))
  sessions_more op p o [] r s ss same = noted_alike (prepare_in m f l op p (first_of s) r).header
      (prepare_in m f l o 0 0 r).header ss (same_session m m f l f l op o p 0 (first_of s) 0 r (omega (arith, same)))
  sessions_more op p o (x ∷ rs) r s ss same =
      sessions_more (op + 1) (first_of s) o rs r (drop 1 s) (noted (prepare_in m f l op p (first_of s) x).header ss) (omega (arith, same))

-- ---- what is staged

pub nothing_staged : (sh : Shape) (v : View) → Sound sh v → AreLawful (clients sh) (sessions v) → AreStaged sh v []
nothing_staged sh v sound lawful = record { room = omega (arith, sound.room); pipeline = omega (arith, sound.pipeline.1); unspent = omega (arith, sound.head_to); asks = tt; sessions = lawful }

-- it stays so, whatever its group's numbers are, while the tail is no longer and no less replies are stored
pub staged_on :
    (sh : Shape) (v u : View) (m n : Memory) (f l g k op o p q : ℕ) (rs : List Request) (s t : List ℕ)
    → op ≡ o → m.replies ≤ n.replies → length u.tail ≤ length v.tail → head u ≡ head v → v.replies ≤ u.replies → sessions u ≡ sessions v
    → AreStaged sh v (prepares_in m f l op p rs s) → AreStaged sh u (prepares_in n g k o q rs t)
staged_on sh v u m n f l g k op o p q rs s t same later shorter heads replies tables old = let one = length_in m f l op p rs s in
    let two = length_in n g k o q rs t in let ps = prepares_in n g k o q rs t in record {
      room = omega (arith, old.room, one, two, shorter);
      pipeline = omega (arith, old.pipeline, one, two, heads, replies);
      unspent = omega (arith, old.unspent, one, two, heads);
      asks = rw (sym tables) at (alike_asks m n f l g k (clients sh) op o p q rs s t (sessions v) same later old.asks);
      sessions = subst (AreLawful (clients sh)) (alike_sessions m n f l g k op o p q rs s t (sessions v) same
          ∙ ap (λ (x : List Session). sessions_after x ps) (sym tables)) old.sessions;
    }
