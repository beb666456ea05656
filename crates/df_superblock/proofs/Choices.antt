-- How a content is shown to be chosen, and that contents can be told apart.
use Rattle.std.{proofs.{Common.{◌≡◌, ◌⊎◌, inl, inr, ℕ, ◌<◌, Bool, true, false, List, [], ◌∷◌, Option, Some, None, refl, ap, arith}, lemmas.Bool.{cases_eq}, lemmas.Slice.Eq.{bytes_eq-Decides}}, specs.Str.{bytes_eq}}
use Rattle.{df_format.specs.{Copies.{Content}, declared.superblock.SuperFields.{SuperFields}}, df_quorum.specs.Quorum.{Copies, CopiesAgree}}

-- another one of two copies that agree
pub partner : (copies : Copies) (c : Content) → CopiesAgree copies c → (i : ℕ) → (j : ℕ) × (j < 4) × (i ≡ j → ⊥) × (copies j ≡ Some c)
partner copies c a i = elim (cases_eq i a.first) [
  | inl e ↦ (a.second, a.inside, λ f. omega (arith, a.apart), a.at_second)
  | inr away ↦ (a.first, omega (arith, a.apart, a.inside), away, a.at_first)
]

-- ---- contents can be told apart

abbrev pub Decided : Type 0 → Type 0
Decided P = P ⊎ (P → ⊥)

both : (P Q : Type 0) → Decided P → Decided Q → Decided (P × Q)
both P Q (inl p) (inl q) = inl (p, q)
both P Q (inl p) (inr differ) = inr (λ pq. differ pq.1)
both P Q (inr differ) q = inr (λ pq. differ pq.0)

same_list : (xs ys : List ℕ) → Decided (xs ≡ ys)
same_list xs ys = go (bytes_eq xs ys) refl
  where
    go : (b : Bool) → bytes_eq xs ys ≡ b → Decided (xs ≡ ys)
    go true is = inl ((bytes_eq-Decides xs ys).0 is)
    go false is = inr (λ e. let same : bytes_eq xs ys ≡ true = (bytes_eq-Decides xs ys).1 e in cc)

parts_of : (x y : List ℕ) (xs ys : List (List ℕ)) → x ∷ xs ≡ y ∷ ys → (x ≡ y) × (xs ≡ ys)
parts_of x y xs ys same = (cc, cc)

same_lists : (xs ys : List (List ℕ)) → Decided (xs ≡ ys)
same_lists [] [] = inl refl
same_lists [] (y ∷ ys) = inr (λ e. cc)
same_lists (x ∷ xs) [] = inr (λ e. cc)
same_lists (x ∷ xs) (y ∷ ys) = elim (both _ _ (same_list x y) (same_lists xs ys)) [
  | inl is ↦ inl (λ i. is.0 i ∷ is.1 i)
  | inr differ ↦ inr (λ e. differ (parts_of x y xs ys e))
]

same_option : (x y : Option ℕ) → Decided (x ≡ y)
same_option None None = inl refl
same_option None (Some b) = inr (λ e. cc)
same_option (Some a) None = inr (λ e. cc)
same_option (Some a) (Some b) = elim (cases_eq a b) [
  | inl is ↦ inl (ap (λ (k : ℕ). Some k) is)
  | inr differ ↦ inr (λ e. differ (let same : a ≡ b = cc in same))
]

-- the fields in three parts
abbrev First : SuperFields → SuperFields → Type 0
First f g = (f.version ≡ g.version) × ((f.slots ≡ g.slots)
    × ((f.message_size ≡ g.message_size) × ((f.clients ≡ g.clients) × ((f.block_size ≡ g.block_size) × (f.blocks ≡ g.blocks)))))

abbrev Second : SuperFields → SuperFields → Type 0
Second f g = (f.cluster ≡ g.cluster)
    × ((f.sequence ≡ g.sequence) × ((f.op ≡ g.op) × ((f.op_checksum ≡ g.op_checksum) × ((f.head ≡ g.head) × (f.replies ≡ g.replies)))))

abbrev Third : SuperFields → SuperFields → Type 0
Third f g = (f.trailer_address ≡ g.trailer_address) × ((f.trailer_checksum ≡ g.trailer_checksum) × ((f.trailer_size ≡ g.trailer_size) × ((f.boot ≡ g.boot) × ((f.head_checksum ≡ g.head_checksum) × ((f.reply_checksums ≡ g.reply_checksums) × (f.first_nonzero ≡ g.first_nonzero))))))

same_first : (f g : SuperFields) → Decided (First f g)
same_first f g = both _ _ (cases_eq f.version g.version) (both _ _ (cases_eq f.slots g.slots) (both _ _ (cases_eq f.message_size
    g.message_size) (both _ _ (cases_eq f.clients g.clients) (both _ _ (cases_eq f.block_size g.block_size) (cases_eq f.blocks g.blocks)))))

same_second : (f g : SuperFields) → Decided (Second f g)
same_second f g = both _ _ (cases_eq f.cluster g.cluster) (both _ _ (cases_eq f.sequence g.sequence) (both _ _ (cases_eq f.op g.op)
    (both _ _ (same_list f.op_checksum g.op_checksum) (both _ _ (cases_eq f.head g.head) (cases_eq f.replies g.replies)))))

same_third : (f g : SuperFields) → Decided (Third f g)
same_third f g = both _ _ (cases_eq f.trailer_address g.trailer_address) (both _ _ (same_list f.trailer_checksum g.trailer_checksum) (both _ _ (cases_eq f.trailer_size g.trailer_size) (both _ _ (cases_eq f.boot g.boot) (both _ _ (same_list f.head_checksum g.head_checksum) (both _ _ (same_lists f.reply_checksums g.reply_checksums) (same_option f.first_nonzero g.first_nonzero))))))

fields_from : (f g : SuperFields) → First f g × (Second f g × Third f g) → f ≡ g
fields_from f g is i = record {
  version = is.0.0 i;
  slots = is.0.1.0 i;
  message_size = is.0.1.1.0 i;
  clients = is.0.1.1.1.0 i;
  block_size = is.0.1.1.1.1.0 i;
  blocks = is.0.1.1.1.1.1 i;
  cluster = is.1.0.0 i;
  sequence = is.1.0.1.0 i;
  op = is.1.0.1.1.0 i;
  op_checksum = is.1.0.1.1.1.0 i;
  head = is.1.0.1.1.1.1.0 i;
  replies = is.1.0.1.1.1.1.1 i;
  trailer_address = is.1.1.0 i;
  trailer_checksum = is.1.1.1.0 i;
  trailer_size = is.1.1.1.1.0 i;
  boot = is.1.1.1.1.1.0 i;
  head_checksum = is.1.1.1.1.1.1.0 i;
  reply_checksums = is.1.1.1.1.1.1.1.0 i;
  first_nonzero = is.1.1.1.1.1.1.1.1 i;
}

fields_to : (f g : SuperFields) → f ≡ g → First f g × (Second f g × Third f g)
fields_to f g e = ((ap (λ (x : SuperFields). x.version) e, (ap (λ (x : SuperFields). x.slots) e, (ap (λ (x : SuperFields). x.message_size) e, (ap (λ (x : SuperFields). x.clients) e, (ap (λ (x : SuperFields). x.block_size) e, ap (λ (x : SuperFields). x.blocks) e))))), ((ap (λ (x : SuperFields). x.cluster) e, (ap (λ (x : SuperFields). x.sequence) e, (ap (λ (x : SuperFields). x.op) e, (ap (λ (x : SuperFields). x.op_checksum) e, (ap (λ (x : SuperFields). x.head) e, ap (λ (x : SuperFields). x.replies) e))))), (ap (λ (x : SuperFields). x.trailer_address) e, (ap (λ (x : SuperFields). x.trailer_checksum) e, (ap (λ (x : SuperFields). x.trailer_size) e, (ap (λ (x : SuperFields). x.boot) e, (ap (λ (x : SuperFields). x.head_checksum) e, (ap (λ (x : SuperFields). x.reply_checksums) e, ap (λ (x : SuperFields). x.first_nonzero) e))))))))

same_fields : (f g : SuperFields) → Decided (f ≡ g)
same_fields f g = elim (both _ _ (same_first f g) (both _ _ (same_second f g) (same_third f g))) [
  | inl is ↦ inl (fields_from f g is)
  | inr differ ↦ inr (λ e. differ (fields_to f g e))
]

pub same_content : (c d : Content) → Decided (c ≡ d)
same_content c d = elim (both _ _ (same_list c.checksum d.checksum) (same_fields c.fields d.fields)) [
  | inl is ↦ inl (λ i. record { checksum = is.0 i; fields = is.1 i })
  | inr differ ↦ inr (λ e. differ (ap (λ (x : Content). x.checksum) e, ap (λ (x : Content). x.fields) e))
]

-- a place shows this content, or it doesn't
pub shows_content : (o : Option Content) (c : Content) → Decided (o ≡ Some c)
shows_content None c = inr (λ e. cc)
shows_content (Some d) c = elim (same_content d c) [
  | inl is ↦ inl (ap (λ (x : Content). Some x) is)
  | inr differ ↦ inr (λ e. differ (let same : d ≡ c = cc in same))
]
