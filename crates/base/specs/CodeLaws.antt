-- Kinds and code bytes: the test of kinds is equality; each of 20 to 27 is its operation's entry, there and back; a code's form tells its byte; any other byte is unknown.
use Rattle.std.specs.Prelude.{ℕ, suc, ◌<◌, ◌≤◌, ◌≡◌, refl, ◌⊎◌, Bool, true, false, ◌&&◌, cond, eqb, leb}
use Rattle.std.proofs.Common.{arith, sym, ap, ◌∙◌, inl, inr, ne_eqb, le-leb, eqb-true, leb-true}
use Rattle.std.proofs.Math.Path.{subst⁻¹}
use Rattle.std.proofs.lemmas.Bool.{false≢true, lt-leb}
use Rattle.base.specs.TestLaws.{same?, split}
use Rattle.base.specs.Codes.{start_kind, same_kind, plain, entry_of, operation_of, byte_of, code_of, start_code}
use Rattle.base.specs.declared.Kind.{Kind}
use Rattle.base.specs.declared.Kind.TheVariants as kind
use Rattle.base.specs.declared.Operation.{Operation}
use Rattle.base.specs.declared.Operation.TheVariants.{Sum, Difference, Product, LessThan, Equal, And, Or, Not}
use Rattle.base.specs.declared.Form.{Form}
use Rattle.base.specs.declared.Form.TheVariants.{End, Assign, Skip, Branch, Variable, Word, Bit, Apply, Unknown}
use Rattle.base.specs.declared.Code.{Code}

-- kinds that the test takes for the same are the same
pub same_kind_lem : (a b : Kind) → same_kind a b ≡ true → a ≡ b
same_kind_lem kind.Word kind.Word h = refl
same_kind_lem kind.Word kind.Bit h = absurd (false≢true h)
same_kind_lem kind.Bit kind.Word h = absurd (false≢true h)
same_kind_lem kind.Bit kind.Bit h = refl

pub itself_kind : (a : Kind) → same_kind a a ≡ true
itself_kind kind.Word = refl
itself_kind kind.Bit = refl

-- the code of an input says its kind
pub start_kind_lem : (k : Kind) → start_kind (start_code k) ≡ k
unfolding start_kind
start_kind_lem kind.Word = refl
start_kind_lem kind.Bit = refl

pub kind_bit : (b : ℕ) → b ≡ 1 → start_kind b ≡ kind.Bit
unfolding start_kind
kind_bit b h = rw h

pub kind_word : (b : ℕ) → (b ≡ 1 → ⊥) → start_kind b ≡ kind.Word
unfolding start_kind
kind_word b h = rw (ne_eqb b 1 h)

-- a byte of the operation range is that operation's entry
pub code_operation : (b : ℕ) → 0x20 ≤ b → b ≤ 0x27 → code_of b ≡ entry_of (operation_of b)
unfolding code_of
code_operation b l h =
    simp (
      ne_eqb b 0x00 (omega arith),
      ne_eqb b 0x01 (omega arith),
      ne_eqb b 0x02 (omega arith),
      ne_eqb b 0x03 (omega arith),
      ne_eqb b 0x10 (omega arith),
      ne_eqb b 0x11 (omega arith),
      ne_eqb b 0x12 (omega arith),
      le-leb _ _ l,
      le-leb _ _ h,
    )

-- any other byte is unknown
pub code_unknown : (b : ℕ) → (b ≡ 0x00 → ⊥) → (b ≡ 0x01 → ⊥) → (b ≡ 0x02 → ⊥) → (b ≡ 0x03 → ⊥) → (b ≡ 0x10 → ⊥) → (b ≡ 0x11 → ⊥) → (b ≡ 0x12 → ⊥) → (b < 0x20) ⊎
    (0x27 < b) → code_of b ≡ plain Unknown kind.Word
unfolding code_of
code_unknown b h0 h1 h2 h3 h4 h5 h6 (inl h) =
    simp (ne_eqb b 0x00 h0, ne_eqb b 0x01 h1, ne_eqb b 0x02 h2, ne_eqb b 0x03 h3, ne_eqb b 0x10 h4, ne_eqb b 0x11 h5, ne_eqb b 0x12 h6, lt-leb _ _ h)
code_unknown b h0 h1 h2 h3 h4 h5 h6 (inr h) =
    simp (
      ne_eqb b 0x00 h0,
      ne_eqb b 0x01 h1,
      ne_eqb b 0x02 h2,
      ne_eqb b 0x03 h3,
      ne_eqb b 0x10 h4,
      ne_eqb b 0x11 h5,
      ne_eqb b 0x12 h6,
      le-leb 0x20 b
          (omega arith),
      lt-leb _ _ h,
    )

-- the byte of the operation that a code names is that code
from_on : {A : Type 0} (code k : ℕ) → k ≤ code → (code ≡ k → A) → (suc k ≤ code → A) → A
from_on {A = A} code k h f g = go (same? code k)
  where
    go : (code ≡ k) ⊎ (code ≡ k → ⊥) → A
    go (inl e) = f e
    go (inr n) = g (omega arith)

pub byte_back : (code : ℕ) → 0x20 ≤ code → code ≤ 0x27 → byte_of (operation_of code) ≡ code
unfolding operation_of
byte_back code l h =
    from_on code 0x20 l (λ e. rw e) (λ a. from_on code 0x21 a (λ e. rw e) (λ b. from_on code 0x22 b (λ e. rw e) (λ c. from_on code 0x23 c (λ e. rw e)
    (λ d. from_on code 0x24 d (λ e. rw e)
    (λ i. from_on code 0x25 i (λ e. rw e) (λ j. from_on code 0x26 j (λ e. rw e) (λ k. let e : code ≡ 0x27 = omega (arith, h, k) in rw e)))))))

-- an operation has one argument or two, and its entry opens it
pub one_or_two : (op : Operation) → ((entry_of op).arity ≡ 1) ⊎ ((entry_of op).arity ≡ 2)
one_or_two Sum = inr refl
one_or_two Difference = inr refl
one_or_two Product = inr refl
one_or_two LessThan = inr refl
one_or_two Equal = inr refl
one_or_two And = inr refl
one_or_two Or = inr refl
one_or_two Not = inl refl

-- not has one argument, an operation of a lower code two
pub two_arguments : (b : ℕ) → 0x20 ≤ b → b < 0x27 → (entry_of (operation_of b)).arity ≡ 2
unfolding operation_of
two_arguments b l h =
    from_on b 0x20 l (λ e. rw e) (λ p. from_on b 0x21 p (λ e. rw e) (λ q. from_on b 0x22 q (λ e. rw e) (λ r. from_on b 0x23 r (λ e. rw e)
    (λ t. from_on b 0x24 t (λ e. rw e) (λ u. from_on b 0x25 u (λ e. rw e) (λ v. let e : b ≡ 0x26 = omega arith in rw e))))))

pub one_argument : (b : ℕ) → b ≡ 0x27 → (entry_of (operation_of b)).arity ≡ 1
unfolding operation_of
one_argument b e = rw e

pub entry_form : (op : Operation) → (entry_of op).form ≡ Apply op
entry_form Sum = refl
entry_form Difference = refl
entry_form Product = refl
entry_form LessThan = refl
entry_form Equal = refl
entry_form And = refl
entry_form Or = refl
entry_form Not = refl

-- a code that opens an operation is that operation's entry
IsEntry : Operation → Code → Type 0
IsEntry op c = c.form ≡ Apply op → c ≡ entry_of op

plain_entry : (op : Operation) (t : Bool) (f : Form) (k : Kind) (rest : Code) → (f ≡ Apply op → ⊥) → IsEntry op rest → IsEntry op (cond t (plain f k) rest)
unfolding IsEntry
plain_entry op true f k rest n h e = absurd (n e)
plain_entry op false f k rest n h e = h e

table_entry_lem : (op o : Operation) (t : Bool) → IsEntry op (cond t (entry_of o) (plain Unknown kind.Word))
unfolding IsEntry
table_entry_lem op o true e = let q : Apply o ≡ Apply op = sym (entry_form o) ∙ e in let r : o ≡ op = cc in ap entry_of r
table_entry_lem op o false e = let z : ◌≡◌ {A = ℕ} 0 1 = cc in absurd (omega arith)

form_entry : (b : ℕ) (op : Operation) → (code_of b).form ≡ Apply op → code_of b ≡ entry_of op
unfolding code_of IsEntry
form_entry b op =
    plain_entry op (eqb b 0x00) End kind.Word _ (λ e. let z : ◌≡◌ {A = ℕ} 0 1 = cc in omega arith)
    (plain_entry op (eqb b 0x01) Assign kind.Word _ (λ e. let z : ◌≡◌ {A = ℕ} 0 1 = cc in omega arith)
    (plain_entry op (eqb b 0x02) Skip kind.Word _ (λ e. let z : ◌≡◌ {A = ℕ} 0 1 = cc in omega arith)
    (plain_entry op (eqb b 0x03) Branch kind.Word _ (λ e. let z : ◌≡◌ {A = ℕ} 0 1 = cc in omega arith)
    (plain_entry op (eqb b 0x10) Variable kind.Word _ (λ e. let z : ◌≡◌ {A = ℕ} 0 1 = cc in omega arith)
    (plain_entry op (eqb b 0x11) Word kind.Word _ (λ e. let z : ◌≡◌ {A = ℕ} 0 1 = cc in omega arith)
    (plain_entry op (eqb b 0x12) Bit kind.Bit _ (λ e. let z : ◌≡◌ {A = ℕ} 0 1 = cc in omega arith)
    (table_entry_lem op (operation_of b) (leb 0x20 b && leb b 0x27))))))))

-- so is a code that equals it
pub code_entry : (b : ℕ) (c : Code) (op : Operation) → c ≡ code_of b → c.form ≡ Apply op → c ≡ entry_of op
code_entry b c op e q = e ∙ form_entry b op (ap (λ (x : Code). x.form) (sym e) ∙ q)

-- an operation's byte is read as that operation
pub byte_operation : (op : Operation) → operation_of (byte_of op) ≡ op
unfolding operation_of
byte_operation Sum = refl
byte_operation Difference = refl
byte_operation Product = refl
byte_operation LessThan = refl
byte_operation Equal = refl
byte_operation And = refl
byte_operation Or = refl
byte_operation Not = refl

-- and its code is that operation's entry
pub code_back : (op : Operation) → code_of (byte_of op) ≡ entry_of op
unfolding code_of operation_of
code_back Sum = refl
code_back Difference = refl
code_back Product = refl
code_back LessThan = refl
code_back Equal = refl
code_back And = refl
code_back Or = refl
code_back Not = refl

-- the byte that opens a form
abbrev pub Opens : ℕ → Form → Type 0
Opens b End = b ≡ 0x00
Opens b Assign = b ≡ 0x01
Opens b Skip = b ≡ 0x02
Opens b Branch = b ≡ 0x03
Opens b Variable = b ≡ 0x10
Opens b Word = b ≡ 0x11
Opens b Bit = b ≡ 0x12
Opens b (Apply op) = b ≡ byte_of op
Opens b Unknown = Unit {0}

opens_plain : (b c : ℕ) (f : Form) (k : Kind) (rest : Code) → (b ≡ c → Opens b f) → Opens b rest.form → Opens b (cond (eqb b c) (plain f k) rest).form
opens_plain b c f k rest h r = split (eqb b c) (λ t. rw t (h (eqb-true b c t))) (λ t. rw t r)

opens_table : (b : ℕ) → Opens b (cond (leb 0x20 b && leb b 0x27) (entry_of (operation_of b)) (plain Unknown kind.Word)).form
opens_table b =
    split (leb 0x20 b)
    (λ l. split (leb b 0x27)
    (λ h. rw (l, h) (subst⁻¹ (Opens b) (entry_form (operation_of b)) (sym (byte_back b (leb-true _ _ l) (leb-true _ _ h)))))
    (λ h. rw (l, h) tt))
    (λ l. rw l tt)

-- so the form of a code tells its byte
pub code_opens : (b : ℕ) → Opens b (code_of b).form
unfolding code_of
code_opens b =
    opens_plain b 0x00 End kind.Word _ (λ e. e)
    (opens_plain b 0x01 Assign kind.Word _ (λ e. e)
    (opens_plain b 0x02 Skip kind.Word _ (λ e. e)
    (opens_plain b 0x03 Branch kind.Word _ (λ e. e)
    (opens_plain b 0x10 Variable kind.Word _ (λ e. e)
    (opens_plain b 0x11 Word kind.Word _ (λ e. e)
    (opens_plain b 0x12 Bit kind.Bit _ (λ e. e)
    (opens_table b)))))))

-- and the byte of a variable its form
pub code_variable : (b : ℕ) → b ≡ 0x10 → (code_of b).form ≡ Variable
unfolding code_of
code_variable b e = rw e
