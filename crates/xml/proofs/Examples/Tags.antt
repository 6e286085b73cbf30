-- Worked examples of tags and attributes, [40] [41] [42] [44]: first the texts that a production derives, then those that it does not.
-- An attribute name twice in a tag breaks a constraint, not the production.
use mathlib.Core.Path.{◌≡◌, refl}
use mathlib.Core.Bool.{true}
use mathlib.Core.List.{[], ◌∷◌}
use Rattle.xml.specs.Productions.{Attribute, STag, ETag, EmptyElemTag}
use Rattle.xml.specs.Judged.{judged, texts}

pub [40]-STag :
    judged STag
    (texts
    ("<a>" ∷ "<a >" ∷ "<a\n>" ∷ "<a b='1'>" ∷ "<a  b = '1'\n c='2' >" ∷ "<a:b c:d=''>" ∷ "<a b='\"'>" ∷ "<a b=\"&lt;\">" ∷ "<a b='>'>"
    ∷ "<a b='/>'>" ∷ "<é ü='ß'>" ∷ "<a b='' b=''>" ∷ []))
    (texts
    ("" ∷ "<a/>" ∷ "< a>" ∷ "<>" ∷ "<a" ∷ "a>" ∷ "<a b>" ∷ "<a b=>" ∷ "<a b=1>" ∷ "<a b='<'>" ∷ "<a b='&'>" ∷ "<a b='1'c='2'>"
    ∷ "<a b='1\">" ∷ "<a'b'>" ∷ "<ab='1'>" ∷ "<a b='1' c>" ∷ "<a 'b'='1'>" ∷ "<a 1b='1'>" ∷ "</a>" ∷ "<1a>" ∷ "<-a>" ∷ "<a,b>" ∷ "<a<b>"
    ∷ "<a>>" ∷ "<a> " ∷ " <a>" ∷ "<a\u{a0}b='1'>" ∷ "<a\u{1}>" ∷ "<!DOCTYPE a>" ∷ "<?a>" ∷ "<a></a>" ∷ []))
    ≡ true
unfolding judged
[40]-STag = refl

pub [41]-Attribute :
    judged Attribute
    (texts ("b='1'" ∷ "b=\"1\"" ∷ "b = '1'" ∷ "b\n=\t'1'" ∷ "b=''" ∷ "b='\"'" ∷ "b=\"&lt;\"" ∷ "xml:lang='de'" ∷ "xmlns=''" ∷ "é='é'" ∷ []))
    (texts
    ("" ∷ "b" ∷ "b=" ∷ "b=1" ∷ "b='<'" ∷ "='1'" ∷ "1b='1'" ∷ "-b='1'" ∷ "b='1\"" ∷ "b=\"\"\"" ∷ "b=='1'" ∷ "b '1'" ∷ "b='1'c='2'" ∷ " b='1'"
    ∷ "b='1' " ∷ "b='&foo;'" ∷ "b='&'" ∷ []))
    ≡ true
unfolding judged
[41]-Attribute = refl

pub [42]-ETag :
    judged ETag
    (texts ("</a>" ∷ "</a >" ∷ "</a\n\t>" ∷ "</a:b>" ∷ "</é>" ∷ []))
    (texts
    ("" ∷ "</ a>" ∷ "</a b>" ∷ "</a b='1'>" ∷ "</a" ∷ "< /a>" ∷ "</a/>" ∷ "</>" ∷ "</ >" ∷ "<a>" ∷ "<a/>" ∷ "</1>" ∷ "</a>>"
    ∷ "</a> " ∷ []))
    ≡ true
unfolding judged
[42]-ETag = refl

pub [44]-EmptyElemTag :
    judged EmptyElemTag
    (texts
    ("<a/>" ∷ "<a />" ∷ "<a b='1'/>" ∷ "<a  b = '1'\n c='2' />" ∷ "<a b='/'/>" ∷ "<a:b c:d=\"'\"/>" ∷ "<é/>" ∷ "<a b='' b=''/>" ∷ []))
    (texts
    ("" ∷ "<a>" ∷ "<a / >" ∷ "<a/ >" ∷ "< a/>" ∷ "</>" ∷ "<a/" ∷ "<a//>" ∷ "</a>" ∷ "</a/>" ∷ "<a b/>" ∷ "<a b=/>" ∷ "<a b=1/>"
    ∷ "<a b='<'/>" ∷ "<a b='1'c='2'/>" ∷ "<a b='1' / c='2'/>" ∷ "<a></a>" ∷ "<a/>a" ∷ "<1/>" ∷ []))
    ≡ true
unfolding judged
[44]-EmptyElemTag = refl
