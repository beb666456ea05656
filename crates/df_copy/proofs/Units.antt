-- A unit of the source that is made again: a reply as it is, and a block at another address.
use Rattle.std.{proofs.Common.{◌≡◌, inl, inr, ℕ, ◌+◌, ◌^◌, ◌<◌, ◌≤◌, false, List, length, Option, Some, refl, sym, ◌∙◌, ap, subst, arith}, specs.Prelude.{IsSome}}
use Rattle.df_layout.specs.{declared.layout.Layout.{Layout}, declared.places.Place.{Place}, declared.places.Zone.TheVariants.{ClientReplies, Grid}}
use Rattle.df_format.{specs.{declared.header.Header.{Header}, declared.kind.Kind.{Kind}, declared.kind.Kind.TheVariants.{Block, Reply}, Making.{for_body}, Message.{Message}, Own.{has_op_of_slot, named_elsewhere, own_place, place_in}, Rules.{IsSealed, ObeysBlock, ObeysKind, ObeysRules, ObeysVersion}, Spelling.{sealed}, Valid.{IsBodyOf, IsUnit}}, proofs.Laws.{is_own}}
use Rattle.{df_model.specs.Blocks.{is_held_in}, df_grid.specs.Grid.{GridState, HasAddress}, df_replica.specs.Blocks.{MayPut}}
use Rattle.df_copy.specs.Acts.{IsBlockOf, MayPutReply}

-- what follows from a body is what the header says
pub same_for : (h : Header) (body : List ℕ) → IsBodyOf h body → for_body h body ≡ h
same_for h body has = λ i. record h { checksum_body = sym has.checksum i; size = sym has.size i }

resealed : (h : Header) → IsSealed h → sealed h ≡ h
resealed h is = λ i. record h { checksum = sym is.checksum i }

-- so a unit that is made of its header and its body is the same
pub made_same : (h : Header) (body : List ℕ) → IsSealed h → IsBodyOf h body → sealed (for_body h body) ≡ h
made_same h body is has = ap sealed (same_for h body has) ∙ resealed h is

-- ---- a reply

module _ (layout own : Layout) (u : Message) (is : IsUnit own u.header.cluster (place_in ClientReplies u.header.slot) u)
    (kind : u.header.kind ≡ Reply) (inside : u.header.slot < layout.clients) where
  -- it belongs at its place of any layout that has the place
  pub reply_own : own_place layout ClientReplies u.header ≡ Some (place_in ClientReplies u.header.slot)
  reply_own = is_own layout ClientReplies u.header (place_in ClientReplies u.header.slot) (record {
    op = ap (λ (k : Kind). has_op_of_slot layout k u.header) kind;
    named = ap (λ (k : Kind). named_elsewhere k u.header) kind;
    has = inside;
  })

  pub reply_unit : 256 + length u.body ≤ layout.message_size → IsUnit layout u.header.cluster (place_in ClientReplies u.header.slot) u
  reply_unit fits = record { sealed = is.sealed; owner = refl; fits = omega (arith, is.body.size, fits); body = is.body; own = reply_own }

  pub may_put_reply : 256 + length u.body ≤ layout.message_size → MayPutReply layout u.header u.body
  may_put_reply fits = record { unit = reply_unit fits; kind = kind }

pub reply_same : (layout : Layout) (h : Header) (body : List ℕ) → MayPutReply layout h body → sealed (for_body h body) ≡ h
reply_same layout h body may = made_same h body may.unit.sealed may.unit.body

-- ---- a block

abbrev pub at_address : ℕ → Header → Header
at_address address h = record h { op = address }

block_version : (h : Header) (address : ℕ) → ObeysVersion Block h → ObeysVersion Block (at_address address h)
block_version h address (inl first) =
    inl (record { version = first.version; boot = first.boot; group = first.group; group_last = first.group_last })
block_version h address (inr second) = inr (record { version = second.version; boot = second.boot; group = second.group })

block_kind : (h : Header) (address : ℕ) → 0 < address → ObeysBlock h → ObeysBlock (at_address address h)
block_kind h address some obeys =
    record { parent = obeys.parent; client = obeys.client; op = some; request = obeys.request; mark = obeys.mark; checkpoint = obeys.checkpoint; slot = obeys.slot; block_kind = obeys.block_kind }

-- a block's header at another address obeys the rules
pub moved_rules : (h : Header) (address : ℕ)
    → h.kind ≡ Block → 0 < address → address < 2 ^ 64 → ObeysRules h → ObeysRules (at_address address h)
moved_rules h address kind some small rules = record {
  fits = (let f = rules.fits in record {
    body = f.body;
    cluster = f.cluster;
    parent = f.parent;
    client = f.client;
    op = small;
    request = f.request;
    mark = f.mark;
    checkpoint = f.checkpoint;
    size = f.size;
    slot = f.slot;
    block_kind = f.block_kind;
    version = f.version;
    boot = f.boot;
    group = f.group;
    group_last = f.group_last;
  });
  cluster = rules.cluster;
  size = rules.size;
  kind = subst (λ (k : Kind).
      ObeysKind k (at_address address h)) (sym kind) (block_kind h address some (subst (λ (k : Kind). ObeysKind k h) kind rules.kind));
  version = subst (λ (k : Kind). ObeysVersion k (at_address address h))
      (sym kind) (block_version h address (subst (λ (k : Kind). ObeysVersion k h) kind rules.version));
}

-- it belongs at that address of the layout
pub block_owned : (layout : Layout) (h : Header)
    → h.kind ≡ Block → (1 ≤ h.op) × (h.op ≤ layout.blocks) → own_place layout Grid h ≡ Some (place_in Grid h.op)
block_owned layout h kind inside = is_own layout Grid h (place_in Grid h.op) (record {
  op = ap (λ (k : Kind). has_op_of_slot layout k h) kind;
  named = ap (λ (k : Kind). named_elsewhere k h) kind;
  has = inside;
})

pub block_there : (layout : Layout) (h : Header) → h.kind ≡ Block → (1 ≤ h.op) × (h.op ≤ layout.blocks) → IsSome (own_place layout Grid h)
block_there layout h kind inside = subst (λ (o : Option Place). IsSome o) (sym (block_owned layout h kind inside)) refl

module _ (cluster address : ℕ) (u : Message) (is : IsBlockOf cluster address u) where
  -- as it is made at another address
  pub moved_made : (to : ℕ) → 0 < to → to < 2 ^ 64 → ObeysRules (for_body (at_address to u.header) u.body)
  moved_made to some small = subst (λ (x : Header). ObeysRules x) (sym (λ i. record (at_address to u.header) { checksum_body = sym is.is.body.checksum i; size = sym is.is.body.size i })) (moved_rules u.header to is.kind some small is.is.sealed.rules)

  pub may_put_block : (room : Layout) (g : GridState) (to : ℕ) → room ≡ g.layout → g.cluster ≡ cluster → HasAddress g to
      → is_held_in g.blocks to ≡ false → 256 + length u.body ≤ g.layout.block_size → MayPut room g (at_address to u.header) u.body
  may_put_block room g to same owner inside free fits = record {
    room_is = same;
    cluster = is.is.owner ∙ sym owner;
    may = record { rules = moved_made to (omega (arith, inside.0)) (omega (arith, inside.1, g.layout.blocks_within)); of_kind = is.kind; own = block_there g.layout (at_address to u.header) is.kind inside; fits = fits };
    free = free;
  }
