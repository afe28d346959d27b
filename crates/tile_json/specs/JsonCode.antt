-- The code of values of JSON, by which a proof tells them apart.
use Rattle.std.specs.Prelude.{◌≡◌, ℕ, ℤ, List, Float, T, nat_eq, ◌⊎◌}
use Rattle.std.proofs.Common.{ap, subst, inl, inr, refl}
use Rattle.tile_json.specs.Common.{array, boolean, code_by, Coded, coded_bool, coded_list, coded_ℕ, coded_ℤ, coded⊎, Data, float, item, Items, member, Members, negative, no_items, no_members, null}
use Rattle.tile_json.specs.Common.{Num, number, object, string, unsigned}
use base.Stored.{Gv, gnil, gnum, gcons, num, coded_float}

abbrev num_sum : Num → ℕ ⊎ (ℤ ⊎ Float)
num_sum (unsigned n) = inl n
num_sum (negative z) = inr (inl z)
num_sum (float x) = inr (inr x)

abbrev sum_num : ℕ ⊎ (ℤ ⊎ Float) → Num
sum_num (inl n) = unsigned n
sum_num (inr (inl z)) = negative z
sum_num (inr (inr x)) = float x

pub sum_num_sum : (n : Num) → sum_num (num_sum n) ≡ n
sum_num_sum (unsigned n) = refl
sum_num_sum (negative z) = refl
sum_num_sum (float x) = refl

abbrev coded_num : Coded Num
coded_num = code_by (ℕ ⊎ (ℤ ⊎ Float)) (coded⊎ coded_ℕ (coded⊎ coded_ℤ coded_float)) num_sum sum_num sum_num_sum

abbrev coded_text : Coded (List ℕ)
coded_text = coded_list coded_ℕ

-- a number tells the kinds apart, and what is inside stands behind it
abbrev mutual
  code_data : Data → Gv
  code_data null = gcons (gnum 0) gnil
  code_data (boolean b) = gcons (gnum 1) (coded_bool.code b)
  code_data (number n) = gcons (gnum 2) (coded_num.code n)
  code_data (string s) = gcons (gnum 3) (coded_text.code s)
  code_data (array ds) = gcons (gnum 4) (code_items ds)
  code_data (object ms) = gcons (gnum 5) (code_members ms)

  code_items : Items → Gv
  code_items no_items = gnil
  code_items (item d ds) = gcons (code_data d) (code_items ds)

  code_members : Members → Gv
  code_members no_members = gnil
  code_members (member k d ms) = gcons (gcons (coded_text.code k) (code_data d)) (code_members ms)

abbrev head : Gv → Gv
head gnil = gnil
head (gnum n) = gnil
head (gcons a b) = a

abbrev tail : Gv → Gv
tail gnil = gnil
tail (gnum n) = gnil
tail (gcons a b) = b

abbrev size : Gv → ℕ
size gnil = 0
size (gnum n) = 1
size (gcons a b) = 2

-- codes that differ in a number aren't equal
differ : (f : Gv → ℕ) (x y : Gv) → x ≡ y → T (nat_eq (f x) (f x)) → T (nat_eq (f y) (f x))
differ f x y e = subst (λ g. T (nat_eq (f g) (f x))) e

mutual
  pub same_data : (x y : Data) → code_data x ≡ code_data y → x ≡ y
  same_data null null e = refl
  same_data (boolean a) (boolean b) e = ap boolean (coded_bool.inj a b (ap tail e))
  same_data (number a) (number b) e = ap number (coded_num.inj a b (ap tail e))
  same_data (string a) (string b) e = ap string (coded_text.inj a b (ap tail e))
  same_data (array a) (array b) e = ap array (same_items a b (ap tail e))
  same_data (object a) (object b) e = ap object (same_members a b (ap tail e))
  same_data x y e = absurd (differ (λ g. num (head g)) (code_data x) (code_data y) e tt)

  pub same_items : (x y : Items) → code_items x ≡ code_items y → x ≡ y
  same_items no_items no_items e = refl
  same_items (item d ds) (item f fs) e = λ i. item (same_data d f (ap head e) i) (same_items ds fs (ap tail e) i)
  same_items x y e = absurd (differ size (code_items x) (code_items y) e tt)

  pub same_members : (x y : Members) → code_members x ≡ code_members y → x ≡ y
  same_members no_members no_members e = refl
  same_members (member k d ms) (member l f fs) e =
      λ i. member (coded_text.inj k l (ap (λ g. head (head g)) e) i) (same_data d f (ap (λ g. tail (head g)) e) i) (same_members ms fs (ap tail e) i)
  same_members x y e = absurd (differ size (code_members x) (code_members y) e tt)

abbrev pub coded_data : Coded Data
coded_data = record { code = code_data; inj = same_data }
