-- Worked examples of the XML declaration and its parts, [23] to [26], [32], [80], [81]: first the texts that a production derives, then
-- those that it does not.
use mathlib.Core.Path.{◌≡◌, refl}
use mathlib.Core.Bool.{true}
use mathlib.Core.List.{[], ◌∷◌}
use Rattle.xml.specs.Productions.{Eq, VersionNum, VersionInfo, EncName, EncodingDecl, SDDecl, XMLDecl}
use Rattle.xml.specs.Judged.{judged, texts}

pub [23]-XMLDecl :
    judged XMLDecl
    (texts
    ("<?xml version='1.0'?>" ∷ "<?xml version=\"1.0\" encoding=\"UTF-8\" standalone=\"yes\"?>" ∷ "<?xml version='1.0' standalone=\"no\"?>"
    ∷ "<?xml version='1.1' encoding=\"utf-8\" ?>" ∷ "<?xml\n\tversion = '1.10'\r\nencoding='a'?>" ∷ []))
    (texts
    ("" ∷ "<?xml?>" ∷ "<?xml ?>" ∷ "<?xml encoding='UTF-8'?>" ∷ "<?xml standalone='yes'?>" ∷ "<?xml encoding='UTF-8' version='1.0'?>"
    ∷ "<?xml version='1.0' standalone='yes' encoding='UTF-8'?>" ∷ "<?xml version='1.0'encoding='UTF-8'?>" ∷ "<?xmlversion='1.0'?>"
    ∷ "<?XML version='1.0'?>" ∷ "<?Xml version='1.0'?>" ∷ "<? xml version='1.0'?>" ∷ "<?xml version='1.0\"?>" ∷ "<?xml version='2.0'?>"
    ∷ "<?xml version='1.0' version='1.0'?>" ∷ "<?xml version='1.0' a='b'?>" ∷ "<?xml version='1.0' standalone='YES'?>"
    ∷ "<?xml version='1.0' encoding='8'?>" ∷ "<?xml version='1.0'>" ∷ "<?xml version='1.0' ? >" ∷ " <?xml version='1.0'?>"
    ∷ "<?xml version='1.0'?> " ∷ []))
    ≡ true
unfolding judged
[23]-XMLDecl = refl

pub [24]-VersionInfo :
    judged VersionInfo
    (texts (" version='1.0'" ∷ " version=\"1.0\"" ∷ "\nversion\t= \"1.10\"" ∷ []))
    (texts
    ("" ∷ "version='1.0'" ∷ " version='1.'" ∷ " version='2.0'" ∷ " version=''" ∷ " version=1.0" ∷ " version='1.0\"" ∷ " version=\"1.0'"
    ∷ " version='1.0' " ∷ " version=' 1.0'" ∷ " version'1.0'" ∷ " Version='1.0'" ∷ []))
    ≡ true
unfolding judged
[24]-VersionInfo = refl

pub [25]-Eq :
    judged Eq (texts ("=" ∷ " =" ∷ "= " ∷ " \n=\t\r" ∷ [])) (texts ("" ∷ " " ∷ "==" ∷ "= =" ∷ ":=" ∷ "=a" ∷ "\u{a0}=" ∷ [])) ≡ true
unfolding judged
[25]-Eq = refl

pub [26]-VersionNum :
    judged VersionNum
    (texts ("1.0" ∷ "1.1" ∷ "1.9" ∷ "1.10" ∷ "1.00" ∷ []))
    (texts ("" ∷ "1" ∷ "1." ∷ "2.0" ∷ "01.0" ∷ "1.0a" ∷ "1.0 " ∷ "1.-1" ∷ "1.1.1" ∷ "1,0" ∷ "1./" ∷ "1.:" ∷ "1.\u{661}" ∷ []))
    ≡ true
unfolding judged
[26]-VersionNum = refl

pub [32]-SDDecl :
    judged SDDecl
    (texts (" standalone='yes'" ∷ " standalone=\"no\"" ∷ " standalone = 'no'" ∷ "\t\nstandalone\n=\r\"yes\"" ∷ []))
    (texts
    ("" ∷ "standalone='yes'" ∷ " standalone='YES'" ∷ " standalone='No'" ∷ " standalone='yes\"" ∷ " standalone=\"no'" ∷ " standalone=yes"
    ∷ " standalone=''" ∷ " standalone='true'" ∷ " standalone='yes '" ∷ " standalone'yes'" ∷ " Standalone='yes'"
    ∷ " standalone='yes' " ∷ []))
    ≡ true
unfolding judged
[32]-SDDecl = refl

pub [80]-EncodingDecl :
    judged EncodingDecl
    (texts (" encoding='UTF-8'" ∷ " encoding=\"utf-8\"" ∷ "\nencoding = 'ISO-8859-1'" ∷ []))
    (texts
    ("" ∷ "encoding='UTF-8'" ∷ " encoding=''" ∷ " encoding='8859'" ∷ " encoding='-a'" ∷ " encoding='UTF-8\"" ∷ " encoding=UTF-8"
    ∷ " encoding='UTF 8'" ∷ " Encoding='a'" ∷ " encoding='a' " ∷ []))
    ≡ true
unfolding judged
[80]-EncodingDecl = refl

pub [81]-EncName :
    judged EncName
    (texts ("A" ∷ "Z" ∷ "a" ∷ "z" ∷ "UTF-8" ∷ "x.y_z-1" ∷ "a0" ∷ "a9" ∷ "aA" ∷ "aZ" ∷ "aa" ∷ "az" ∷ "a--" ∷ []))
    (texts
    ("" ∷ "8" ∷ "8859-1" ∷ "-a" ∷ ".a" ∷ "_a" ∷ "@" ∷ "[" ∷ "`" ∷ "{" ∷ "a b" ∷ "a/" ∷ "a:" ∷ "a@" ∷ "a[" ∷ "a`" ∷ "a{" ∷ "a," ∷ "a+"
    ∷ "é" ∷ "aé" ∷ []))
    ≡ true
unfolding judged
[81]-EncName = refl
