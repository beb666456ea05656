-- A sound view with the content, the head and the replies of what is found is the view that is found, where its blocks, prepares and
-- replies are those shown.
use Rattle.std.{proofs.Common.{◌≡◌, ℕ, ◌+◌, ◌-◌, List, Option, Some, None, refl, sym, ◌∙◌, ap, arith}, specs.List.{slice_get}}
use Rattle.df_theory.{specs.{Units.{Block, Content, Message, ReplyPlace, ReplyUnit, Session, Units}, Sessions.{sessions_after}, Tails.{Chain, In}, Shape.{Shape}, Trailer.{InChain, Links}, View.{View, head, sessions}, Holds.{IsNamed, Sound}, Found.{IsFound}}, proofs.{Once.{same_links, same_chains}, OneView.{same_parts as parts_same}}}

module _ (sh : Shape) (shown : Units) (w : View) (f : IsFound sh shown w) (z : View)
    (sound : Sound sh z) (same_content : z.checkpoint.content ≡ w.checkpoint.content) (top : head z ≡ head w) (r : z.replies ≡ w.replies)
    (same_block : (a e : ℕ) (b d : Block) → InChain a b z.checkpoint.chain → InChain e d w.checkpoint.chain → b.checksum ≡ d.checksum → b ≡ d)
    (same_prepare : (p q : Message) → In p z.tail → In q w.tail → p.header.op ≡ q.header.op → p ≡ q)
    (same_reply : (k : ℕ) (x q : Message) → z.stored k ≡ Some x → shown (ReplyPlace
    k) ≡ Some (ReplyUnit q) → IsNamed w.checkpoint.content k q → x.header.op ≡ q.header.op → x ≡ q) where
  same_chain : z.checkpoint.chain ≡ w.checkpoint.chain
  same_chain = same_links (sh.layout.block_size - 256)
      w.checkpoint.content z.checkpoint.chain w.checkpoint.chain w.checkpoint.content.trailer w.checkpoint.content.trailer_checksum
      (rw same_content at sound.checkpoint.trailer.links) f.checkpoint.trailer.links same_block

  same_parts : z.checkpoint.parts ≡ w.checkpoint.parts
  same_parts = parts_same sh z.checkpoint.content w.checkpoint.content z.checkpoint.chain w.checkpoint.chain
      z.checkpoint.parts w.checkpoint.parts same_content same_chain sound.checkpoint.trailer.says f.checkpoint.trailer.says

  same_tail : z.tail ≡ w.tail
  same_tail = let op : z.checkpoint.content.op ≡ w.checkpoint.content.op = ap (λ (c : Content). c.op) same_content in
      same_chains sh.layout.clients (z.checkpoint.content.op + 1) z.checkpoint.content.op_checksum
      w.checkpoint.content.op_checksum 0 0 z.checkpoint.parts.sessions w.checkpoint.parts.sessions z.tail w.tail sound.chain
      (rw (sym op) at f.tail.chain) (omega arith) same_prepare

  same_sessions : sessions z ≡ sessions w
  same_sessions = λ i. sessions_after (same_parts i).sessions (same_tail i)

  stored_cases : (k : ℕ) (o p : Option Message) → z.stored k ≡ o → w.stored k ≡ p → o ≡ p
  stored_cases k None None is at = refl
  stored_cases k (Some x) (Some q) is at = let n = f.stored.no_more k q at in let there = f.stored.shown k n.0 n.1 n.2 in
      let q_is : there.0 ≡ q = (let both : Some there.0 ≡ Some q = sym there.1 ∙ at in cc) in let m = sound.answered k x is in
      let one : m.0 ≡ n.0 = (let both : Some m.0 ≡ Some n.0 = sym m.1 ∙ ap (λ (l : List Session). slice_get l k) same_sessions ∙ n.1 in cc) in
      let ops : x.header.op ≡ there.0.header.op = m.3.op ∙ ap (λ (u : Session). u.op) one ∙ sym there.3.op in
      ap Some (same_reply k x there.0 is there.2 there.4 ops ∙ q_is)
  stored_cases k (Some x) None is at = let m = sound.answered k x is in
      let there = f.stored.shown k m.0 (ap (λ (l : List Session). slice_get l k) (sym same_sessions) ∙ m.1) (omega (arith, m.2)) in
      absurd (let both : Some there.0 ≡ None = sym there.1 ∙ at in cc)
  stored_cases k None (Some q) is at = let n = f.stored.no_more k q at in
      let there = sound.stores k n.0 (ap (λ (l : List Session). slice_get l k) same_sessions ∙ n.1) (omega (arith, n.2)) in
      absurd (let both : Some there.0 ≡ None = sym there.1 ∙ is in cc)

  same_stored : (k : ℕ) → z.stored k ≡ w.stored k
  same_stored k = stored_cases k (z.stored k) (w.stored k) refl refl

  pub view_is_found : z ≡ w
  view_is_found = λ i. record { checkpoint = record { content = same_content i; chain = same_chain i; parts = same_parts i }; tail = same_tail i; replies = r i; stored = λ k. same_stored k i }
