-- What the contracts read of a form tells it apart: two forms of which the same row is read are equal. Assumes nothing.
use Rattle.std.specs.Prelude.{◌≡◌, refl, ℕ, cond, eqb}
use Rattle.std.proofs.Common.{sym, ap, ◌∙◌}
use Rattle.meaning.specs.declared.Width.{Width}
use Rattle.meaning.specs.declared.Width.TheVariants.{W1, W2, W4, W8}
use Rattle.writer_forms.specs.declared.Content.{Content}
use Rattle.writer_forms.specs.declared.Content.TheVariants.{Blank, Number as NumberContent, List as ListContent, Name as NameContent}
use Rattle.writer_forms.specs.declared.Form.{Form as CodeForm}
use Rattle.writer_forms.specs.Forms.{Form, content_form, form_of}

abbrev width_with : ℕ → Width
width_with n = cond (eqb n 1) W1 (cond (eqb n 2) W2 (cond (eqb n 4) W4 W8))

abbrev content_with : Form → Content
content_with f =
    cond f.list (cond f.name (NameContent f.want) (ListContent f.unit f.want)) (cond (eqb f.width 0) Blank (NumberContent (width_with f.width) f.top f.eights))

abbrev form_with : Form → CodeForm
form_with f = record { content = content_with f; pad = f.pad; n = f.n; old = f.old }

content-again : (k : Content) → content_with (content_form k) ≡ k
content-again Blank = refl
content-again (NumberContent W1 top eights) = refl
content-again (NumberContent W2 top eights) = refl
content-again (NumberContent W4 top eights) = refl
content-again (NumberContent W8 top eights) = refl
content-again (ListContent unit want) = refl
content-again (NameContent want) = refl

form-again : (f : CodeForm) → form_with (form_of f) ≡ f
form-again f = ap (λ (k : Content). record { content = k; pad = f.pad; n = f.n; old = f.old }) (content-again f.content)

pub one-form : (x y : CodeForm) → form_of x ≡ form_of y → x ≡ y
one-form x y e = sym (form-again x) ∙ (ap form_with e ∙ form-again y)
